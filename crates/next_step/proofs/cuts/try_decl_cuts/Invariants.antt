use Rattle.std.proofs.Common.{◌≡◌, ℕ, ◌<◌, false}
use Rattle.step_laws.specs.declared.step.Step.TheVariants.{CutDecl}
use Rattle.step_laws.specs.Steps.{HasStep}
use Rattle.next_step.specs.Viewed.{CoversIn, Grows}
use Rattle.next_step.proofs.cuts.try_decl_cuts.Given as goal

abbrev pub invariant-loop-decl : goal.invariant-loop-decl
invariant-loop-decl l = record {
  grows : Grows l.view l.fn.found l.found;
  covers : (i : ℕ) → i < l.decl → CoversIn l.view l.found (CutDecl l.focus.number i);
  none : l.some ≡ false → (i : ℕ) → i < l.decl → HasStep l.view.indexed.now.items (CutDecl l.focus.number i) → ⊥;
}
