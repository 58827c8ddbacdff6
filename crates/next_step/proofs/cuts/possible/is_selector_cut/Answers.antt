use Rattle.std.proofs.Common.{refl, sym, true≢false}
use Rattle.step_laws.specs.declared.step.Step.TheVariants.{CutSel}
use Rattle.next_step.proofs.cuts.possible.is_selector_cut.Goals as goal

pub returns-then-is_uncut_item : goal.returns-then-is_uncut_item
returns-then-is_uncut_item c = (
  λ yes. absurd (true≢false (sym yes)),
  λ has. absurd (c.is_uncut_item.ensures c.if-is_uncut_item.true (CutSel c.args.number c.args.sel) (λ two. two) refl has),
)
