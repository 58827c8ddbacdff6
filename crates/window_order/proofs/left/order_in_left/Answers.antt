use Rattle.window_order.proofs.LeftTests.{first_before, first_not_before, neither_there, second_alone_there}
use Rattle.window_order.proofs.left.order_in_left.Goals as goal
use Rattle.window_order.specs.Left.{rule_of}

pub returns-then-left_before : goal.returns-then-left_before
returns-then-left_before c =
    first_before (rule_of c.args.rule.now) c.args.p.now c.args.q.now c.is_in_left.result c.left_before.result c.is_in_left.ensures c.if-is_in_left.true c.left_before.ensures c.if-left_before.true

pub returns-else-left_before : goal.returns-else-left_before
returns-else-left_before c =
    first_not_before (rule_of c.args.rule.now) c.args.p.now c.args.q.now c.is_in_left.result c.left_before.result c.is_in_left.ensures c.if-is_in_left.true c.left_before.ensures c.if-left_before.false

pub returns-then-second : goal.returns-then-second
returns-then-second c =
    second_alone_there (rule_of c.args.rule.now) c.args.p.now c.args.q.now c.is_in_left.result c.is_in_left-second.result c.is_in_left.ensures c.if-is_in_left.false c.is_in_left-second.ensures c.if-second.true

pub returns-else-second : goal.returns-else-second
returns-else-second c =
    neither_there (rule_of c.args.rule.now) c.args.p.now c.args.q.now c.is_in_left.result c.is_in_left-second.result c.is_in_left.ensures c.if-is_in_left.false c.is_in_left-second.ensures c.if-second.false
