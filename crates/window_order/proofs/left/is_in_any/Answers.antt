use Rattle.window_order.proofs.LeftTests.{any_has}
use Rattle.window_order.proofs.left.is_in_any.Goals as goal

pub returns-in-Some-clause-made : goal.returns-in-Some-clause-made
returns-in-Some-clause-made c = (any_has c.args.rule.now c.in-Some.rule c.args.p.now c.is_in_left.result c.in-Some.is c.is_in_left.ensures).0

pub returns-in-Some-clause-rest : goal.returns-in-Some-clause-rest
returns-in-Some-clause-rest c = (any_has c.args.rule.now c.in-Some.rule c.args.p.now c.is_in_left.result c.in-Some.is c.is_in_left.ensures).1
