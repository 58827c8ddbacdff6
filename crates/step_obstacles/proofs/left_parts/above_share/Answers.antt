use Rattle.step_obstacles.proofs.LeftParts.{upper_left}
use Rattle.step_obstacles.proofs.left_parts.above_share.Goals as goal
use Rattle.window_order.specs.Left.{rule_of}

pub returns : goal.returns
returns c = upper_left c.args.upper.now c.args.lower.now (rule_of c.without_others.result) c.without_others.ensures
