use Rattle.window_order.proofs.WindowTests.{reversed_told}
use Rattle.window_order.proofs.window.Window.is_reversed_between.Goals as goal

pub returns : goal.returns
returns c =
    reversed_told c.args.self.now c.args.p.now c.args.q.now c.has_other_order.result c.stands_behind.result c.stands_behind-2.result c.if-not-has_other_order.false c.has_other_order.ensures
    c.if-stands_behind.false c.stands_behind.ensures c.stands_behind-2.ensures
