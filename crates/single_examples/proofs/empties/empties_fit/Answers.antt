use Rattle.std.proofs.Common.{◌≡◌, ◌↔◌, ◌&&◌, ◌++◌, Bool, true, false, not, sym, subst}
use Rattle.slot_plan.specs.ValidShape.{EmptyFits}
use Rattle.single_examples.proofs.EmptyTests.{empties_decided}
use Rattle.single_examples.proofs.empties.empties_fit.Goals as goal

pub returns : goal.returns
returns c =
    subst (λ (b : Bool). not b ≡ true ↔ EmptyFits false (c.args.x.now ++ c.args.y.now)) (sym c.both.ensures)
    (empties_decided (c.args.x.now ++ c.args.y.now) c.asks_for_none.result c.asks_for_content.result c.asks_for_none.ensures c.asks_for_content.ensures)
