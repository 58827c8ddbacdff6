use Rattle.std.proofs.Common.{◌≡◌, ◌<◌, ◌⊎◌, inl, inr, ℕ, refl, arith}
use Rattle.css_io.specs.Io.{last_count}
use Rattle.cssmin_run.specs.Change.{Change, HasFailed}
use Rattle.cssmin_run.proofs.Forms.{read_fault_is, write_fault_is}
use Rattle.cssmin_run.specs.declared.status.Status.TheVariants.{ReadFault, WriteFault}
use Rattle.cssmin_run.proofs.laws.constant_counts_answer_no_fault.Goals as goal

no_rise : (old new limit : ℕ) → new ≡ old → old < limit → (old < new) ⊎ (new ≡ limit) → ⊥
no_rise old new limit stays below (inl more) = absurd (omega (arith, stays, below, more))
no_rise old new limit stays below (inr last) = absurd (omega (arith, stays, below, last))

pub returns-clause-no_read_fault : goal.returns-clause-no_read_fault
returns-clause-no_read_fault c = λ words input output err held stays below ran.
    no_rise input.old_faults input.new_faults last_count stays below (read_fault_is words ReadFault input output err held ran refl)

no_write : (output err : Change) → output.new_faults ≡ output.old_faults → output.old_faults < last_count → err.new_faults ≡ err.old_faults → err.old_faults < last_count → HasFailed output ⊎ HasFailed err → ⊥
no_write output err stays below stays' below' (inl failed) = no_rise output.old_faults output.new_faults last_count stays below failed
no_write output err stays below stays' below' (inr failed) = no_rise err.old_faults err.new_faults last_count stays' below' failed

pub returns-clause-no_write_fault : goal.returns-clause-no_write_fault
returns-clause-no_write_fault c = λ words input output err held stays below stays' below' ran. no_write output err stays below stays' below' (write_fault_is words WriteFault input output err held ran refl)
