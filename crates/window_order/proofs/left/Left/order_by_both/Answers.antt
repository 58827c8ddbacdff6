use Rattle.std.proofs.Common.{sym, ◌∙◌, subst}
use Rattle.std.proofs.lemmas.Bool.{false≢true}
use Rattle.window_order.proofs.PairOrders.{first_alone_is}
use Rattle.window_order.proofs.left.Left.order_by_both.Goals as goal
use Rattle.window_order.specs.Orders.{IsOrder}
use Rattle.window_order.specs.declared.order.PairOrder.{PairOrder}
use Rattle.window_order.specs.Left.{items_of}

pub returns-then-not-second : goal.returns-then-not-second
returns-then-not-second c = subst (λ (order : PairOrder). IsOrder (items_of c.args.self.now) c.args.p.now c.args.q.now order) (sym c.first_alone.ensures)
    (first_alone_is (items_of c.args.self.now) c.args.p.now c.args.q.now c.args.first (λ h. false≢true (sym c.if-not-second.true ∙ c.requires.second.1 h)) c.requires.first)

pub returns-then-not-first : goal.returns-then-not-first
returns-then-not-first c = (λ h. false≢true (sym c.if-not-first.true ∙ c.requires.first.1 h), c.requires.second.0 c.if-not-second.false)

pub order_of-requires-clause-first : goal.order_of-requires-clause-first
order_of-requires-clause-first c = c.requires.first.0 c.if-not-first.false

pub order_of-requires-clause-second : goal.order_of-requires-clause-second
order_of-requires-clause-second c = c.requires.second.0 c.if-not-second.false
