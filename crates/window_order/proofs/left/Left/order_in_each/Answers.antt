use Rattle.std.proofs.Common.{subst, sym}
use Rattle.window_order.proofs.PairOrders.{joined_is}
use Rattle.window_order.proofs.left.Left.order_in_each.Goals as goal
use Rattle.window_order.specs.Left.{items_of, made_of, rest_of}
use Rattle.window_order.specs.Orders.{IsOrder}
use Rattle.window_order.specs.declared.order.PairOrder.{PairOrder}

pub returns : goal.returns
returns c = subst (λ (order : PairOrder). IsOrder (items_of c.args.self.now) c.args.p.now c.args.q.now order) (sym c.joined.ensures)
    (joined_is (made_of c.args.self.now.made) (rest_of c.args.self.now.rest) c.args.p.now c.args.q.now c.order_in_any-above.result c.order_in_any-below.result c.order_in_any-above.ensures.made c.order_in_any-below.ensures.rest)
