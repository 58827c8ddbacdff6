use Rattle.std.proofs.Common.{◌∙◌, sym}
use Rattle.std.proofs.lemmas.Bool.{false≢true}
use Rattle.window_order.proofs.KeptOrder.{before_kept_with, none_before}
use Rattle.window_order.proofs.LastFound.{no}
use Rattle.window_order.proofs.PairOrders.{differ_is, tested}
use Rattle.window_order.proofs.kept.has_other_place.Goals as goal
use Rattle.window_order.specs.Orders.{comes_before_kept}

pub returns-then-stands_below : goal.returns-then-stands_below
returns-then-stands_below c = λ first last first' last' are are' plain plain'.
    let at = c.requires.kept in no (none_before c.args.middle.now c.args.number at.0 at.1 at.2 c.args.p.now first last first' last' plain plain' (c.stands_below.ensures.0 c.if-stands_below.true))

pub returns : goal.returns
returns c = λ first last first' last' are are' plain plain'.
    let at = c.requires.kept in
    differ_is c.comes_before_kept.result c.comes_before_kept-2.result
    (tested c.comes_before_kept.result (comes_before_kept c.args.old c.stands_above-above.result) c.comes_before_kept.ensures
    (before_kept_with c.args.middle.now c.args.number at.0 at.1 at.2 c.args.p.now first last c.args.old c.stands_above-above.result are plain (λ h. false≢true (sym c.if-stands_below.false ∙ c.stands_below.ensures.1 h)) c.stands_above-above.ensures))
    (tested c.comes_before_kept-2.result (comes_before_kept c.args.new c.stands_above-above.result) c.comes_before_kept-2.ensures
    (before_kept_with c.args.middle.now c.args.number at.0 at.1 at.2 c.args.p.now first' last' c.args.new c.stands_above-above.result are' plain' (λ h. false≢true (sym c.if-stands_below.false ∙ c.stands_below.ensures.1 h)) c.stands_above-above.ensures))
