use Rattle.window_order.proofs.LastFound.{no}
use Rattle.window_order.proofs.PairOrders.{never_other}
use Rattle.window_order.proofs.window.Window.is_reversed.Goals as goal
use Rattle.window_order.specs.Left.{items_of}
use Rattle.window_order.specs.Reversed.{first_of, last_of, middle_of}

pub returns-then-always_same : goal.returns-then-always_same
returns-then-always_same c = no (λ r. never_other (first_of c.args.self.now) (middle_of c.args.self.now) (last_of c.args.self.now) (items_of c.args.self.now.first_left) (items_of c.args.self.now.last_left) c.args.p.now c.args.q.now
    c.old_ends-old.result c.new_ends-new.result (c.always_same.ensures.0 c.if-always_same.true) c.old_ends-old.ensures c.new_ends-new.ensures r.order)
