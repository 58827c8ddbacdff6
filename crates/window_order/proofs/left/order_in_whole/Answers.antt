use Rattle.std.proofs.Common.{refl, sym, true}
use Rattle.window_order.proofs.LeftTests.{first_before, first_not_before}
use Rattle.window_order.proofs.left.order_in_whole.Goals as goal
use Rattle.window_order.specs.Left.{rule_of}

pub returns-then-left_before : goal.returns-then-left_before
returns-then-left_before c = first_before (rule_of c.args.rule.now) c.args.p.now c.args.q.now true c.left_before.result (sym c.requires.first) refl c.left_before.ensures c.if-left_before.true

pub returns-else-left_before : goal.returns-else-left_before
returns-else-left_before c = first_not_before (rule_of c.args.rule.now) c.args.p.now c.args.q.now true c.left_before.result (sym c.requires.first) refl c.left_before.ensures c.if-left_before.false
