use Rattle.std.proofs.Common.{ℕ, subst}
use Rattle.saved_bytes.specs.Savings.{IsSaving}
use Rattle.next_step.proofs.Looking.{nothing_saved}
use Rattle.next_step.proofs.trying.try_known.Goals as goal

pub returns-then-saving-eq0-clause-covers : goal.returns-then-saving-eq0-clause-covers
returns-then-saving-eq0-clause-covers c =
    nothing_saved c.args.view.now c.args.found.now c.args.step.now
    (subst (λ (m : ℕ). IsSaving c.args.view.now.source.now c.args.view.now.indexed.now.items c.args.step.now m) c.if-saving-eq0.true c.requires.saving)
