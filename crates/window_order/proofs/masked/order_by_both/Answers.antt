use Rattle.std.proofs.Common.{List, sym, ◌∙◌, subst}
use Rattle.std.proofs.lemmas.Bool.{false≢true}
use Rattle.css_model.specs.Cascade.Order.{HasPair}
use Rattle.css_model.specs.declared.sheet.Item.{Item}
use Rattle.window_order.proofs.PairOrders.{first_alone_is}
use Rattle.window_order.proofs.masked.order_by_both.Goals as goal
use Rattle.window_order.specs.Orders.{IsOrder}
use Rattle.window_order.specs.declared.order.PairOrder.{PairOrder}

pub returns-then-not-second : goal.returns-then-not-second
returns-then-not-second c = subst (λ (order : PairOrder). IsOrder c.args.items.now c.args.p.now c.args.q.now order) (sym c.first_alone.ensures)
    (first_alone_is c.args.items.now c.args.p.now c.args.q.now c.args.first (λ h. false≢true (sym c.if-not-second.true ∙ c.requires.second.1 h)) c.requires.first)

pub returns-then-not-first : goal.returns-then-not-first
returns-then-not-first c = (λ h. false≢true (sym c.if-not-first.true ∙ c.requires.first.1 h), c.requires.second.0 c.if-not-second.false)

pub order_in_one-requires-clause-first : goal.order_in_one-requires-clause-first
order_in_one-requires-clause-first c = subst (λ (items : List Item). HasPair items c.args.p.now) c.in-Some.ensures (c.requires.first.0 c.if-not-first.false)

pub order_in_one-requires-clause-second : goal.order_in_one-requires-clause-second
order_in_one-requires-clause-second c = subst (λ (items : List Item). HasPair items c.args.q.now) c.in-Some.ensures (c.requires.second.0 c.if-not-second.false)

pub returns-in-Some : goal.returns-in-Some
returns-in-Some c = subst (λ (items : List Item). IsOrder items c.args.p.now c.args.q.now c.order_in_one.result) (sym c.in-Some.ensures) c.order_in_one.ensures
