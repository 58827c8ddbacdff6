use Rattle.std.proofs.Common.{◌≡◌, ℕ, IsTrue, List, sym, subst}
use Rattle.std.proofs.lemmas.Bool.{and_parts}
use Rattle.cnf.specs.declared.lit.Lit.{Lit}
use Rattle.cnf.specs.Propagation.{is_distinct}
use Rattle.cnf.proofs.ForCallers.{list_all-mono}
use Rattle.rup_check.specs.Checks.{are_steps, is_step}
use Rattle.rup_check.specs.Reading.{are_plain, is_plain}
use Rattle.rup_check.proofs.read.read_log.Goals as goal

-- plain clauses can be steps
plain-steps : (v w : ℕ) (steps : List (List Lit)) → v ≡ w → IsTrue (are_plain w steps) → IsTrue (are_steps v steps)
plain-steps v w steps same plain =
    let P : ℕ → Type 0 = λ vars. IsTrue (are_steps vars steps) in
    subst P (sym same) (list_all-mono (is_plain w) (is_step w) (λ c h. (and_parts (is_step w c) (is_distinct c) h).0) steps plain)

pub returns-clause-checkable : goal.returns-clause-checkable
returns-clause-checkable c = plain-steps _ _ c.in_ok-steps.steps.items c.in_ok-formula.ensures.ok.0 c.in_ok-steps.ensures.ok.0
