use Rattle.window_order.proofs.LeftTests.{any_order}
use Rattle.window_order.proofs.left.order_in_any.Goals as goal

pub returns-in-Some-clause-rest : goal.returns-in-Some-clause-rest
returns-in-Some-clause-rest c = (any_order c.args.rule.now c.in-Some.rule c.args.p.now c.args.q.now c.order_in_left.result c.in-Some.is c.order_in_left.ensures).1
