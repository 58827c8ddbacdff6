use Rattle.std.proofs.Common.{◌∙◌, sym}
use Rattle.std.proofs.lemmas.Bool.{false≢true}
use Rattle.window_order.proofs.KeptOrder.{before_kept_with, none_before}
use Rattle.window_order.proofs.LastFound.{no}
use Rattle.window_order.proofs.LastPlaces.{none_below, somewhere_above, stands_below}
use Rattle.window_order.proofs.PairOrders.{differ_is, tested}
use Rattle.window_order.proofs.kept.has_place_other.Goals as goal
use Rattle.window_order.specs.Orders.{comes_before_kept}
use Rattle.window_order.specs.Places.{IsBelow}

pub returns-then-is_below : goal.returns-then-is_below
returns-then-is_below c = λ first last first' last' are are' plain plain'.
    let at = c.requires.kept in
    no (none_before c.args.middle.now c.args.number at.0 at.1 at.2 c.args.p.now first last first' last' plain plain'
    (stands_below c.args.middle.now c.args.number at.0 at.1 at.2 c.args.p.now c.args.at c.requires.place (c.is_below.ensures.0 c.if-is_below.true)))

pub returns : goal.returns
returns c = λ first last first' last' are are' plain plain'.
    let at = c.requires.kept in
    let not : IsBelow c.args.at c.args.number → ⊥ = λ h. false≢true (sym c.if-is_below.false ∙ c.is_below.ensures.1 h) in
    let above = somewhere_above c.args.middle.now c.args.number at.0 at.1 at.2 c.args.p.now c.args.at c.is_somewhere-above.result c.requires.place not c.is_somewhere-above.ensures in
    let none = none_below c.args.middle.now c.args.number at.0 at.1 at.2 c.args.p.now c.args.at c.requires.place not in
    differ_is c.comes_before_kept.result c.comes_before_kept-2.result
    (tested c.comes_before_kept.result (comes_before_kept c.args.old c.is_somewhere-above.result) c.comes_before_kept.ensures
    (before_kept_with c.args.middle.now c.args.number at.0 at.1 at.2 c.args.p.now first last c.args.old c.is_somewhere-above.result are plain none above))
    (tested c.comes_before_kept-2.result (comes_before_kept c.args.new c.is_somewhere-above.result) c.comes_before_kept-2.ensures
    (before_kept_with c.args.middle.now c.args.number at.0 at.1 at.2 c.args.p.now first' last' c.args.new c.is_somewhere-above.result are' plain' none above))
