-- The greatest count is below 2 ^ 25.
use Rattle.std.proofs.Common.{arith}
use Rattle.nth_positions.proofs.limits.bounds.Goals as goal

pub returns-clause-small : goal.returns-clause-small
returns-clause-small c = c.width-width.ensures.least 25 (omega arith)
