-- The leading zeros leave the width.
use Rattle.std.proofs.Common.{◌≤◌, ℕ, subst, sym, arith}
use Rattle.nth_positions.proofs.FirstPassing.{width_is, width_least}
use Rattle.nth_positions.proofs.limits.width.Goals as goal

pub returns-clause-exact : goal.returns-clause-exact
returns-clause-exact c = width_is c.args.number (omega arith)

pub returns-clause-least : goal.returns-clause-least
returns-clause-least c w h = subst (λ (n : ℕ). n ≤ w) (sym (width_is c.args.number (omega arith))) (width_least c.args.number w h)
