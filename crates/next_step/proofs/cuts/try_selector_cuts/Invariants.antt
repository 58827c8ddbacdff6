use Rattle.std.proofs.Common.{◌≡◌, ℕ, ◌<◌, false}
use Rattle.step_laws.specs.declared.step.Step.TheVariants.{CutSel}
use Rattle.step_laws.specs.Steps.{HasStep}
use Rattle.next_step.specs.Viewed.{CoversIn, Grows}
use Rattle.next_step.proofs.cuts.try_selector_cuts.Given as goal

abbrev pub invariant-loop-sel : goal.invariant-loop-sel
invariant-loop-sel l = record {
  grows : Grows l.view l.fn.found l.found;
  covers : (i : ℕ) → i < l.sel → CoversIn l.view l.found (CutSel l.focus.number i);
  none : l.some ≡ false → (i : ℕ) → i < l.sel → HasStep l.view.indexed.now.items (CutSel l.focus.number i) → ⊥;
}
