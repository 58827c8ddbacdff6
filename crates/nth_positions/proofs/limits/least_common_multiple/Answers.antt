-- The first multiple of a that is one of b, or the product, is the least common one.
use Rattle.std.proofs.Common.{arith}
use Rattle.std.proofs.Math.Nat.{mul-mod_left}
use Rattle.nth_positions.proofs.CommonMultiples.{first_multiple}
use Rattle.nth_positions.proofs.limits.least_common_multiple.Goals as goal

pub returns-then-a-turns-eq0-clause-least : goal.returns-then-a-turns-eq0-clause-least
returns-then-a-turns-eq0-clause-least c = first_multiple c.args.a c.args.b c.loop-turns.turns c.requires.first (omega arith) c.if-a-turns-eq0.true c.loop-turns.invariant

pub returns-clause-least : goal.returns-clause-least
returns-clause-least c = first_multiple c.args.a c.args.b c.args.b c.requires.first c.requires.second (mul-mod_left c.args.a c.args.b) (λ k p q. c.loop-turns.invariant k p (omega arith))
