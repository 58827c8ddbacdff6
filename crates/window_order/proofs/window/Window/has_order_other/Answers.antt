use Rattle.window_order.proofs.PairOrders.{before_with, differ_is, tested}
use Rattle.window_order.proofs.window.Window.has_order_other.Goals as goal
use Rattle.window_order.specs.Left.{items_of}
use Rattle.window_order.specs.Orders.{comes_before}
use Rattle.window_order.specs.Reversed.{first_of, last_of, middle_of}

pub returns : goal.returns
returns c =
    differ_is c.comes_before.result c.comes_before-2.result
    (tested c.comes_before.result (comes_before c.args.old c.order_at-between.result) c.comes_before.ensures
    (before_with (first_of c.args.self.now) (middle_of c.args.self.now) (last_of c.args.self.now) c.args.p.now c.args.q.now c.args.old c.order_at-between.result c.requires.old c.order_at-between.ensures))
    (tested c.comes_before-2.result (comes_before c.args.new c.order_at-between.result) c.comes_before-2.ensures
    (before_with (items_of c.args.self.now.first_left) (middle_of c.args.self.now) (items_of c.args.self.now.last_left) c.args.p.now c.args.q.now c.args.new c.order_at-between.result c.requires.new c.order_at-between.ensures))
