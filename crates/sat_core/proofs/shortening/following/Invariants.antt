use Rattle.std.proofs.Common.{◌≡◌, length}
use Rattle.sat_core.proofs.shortening.following.Given as goal

abbrev pub invariant-loop-k : goal.invariant-loop-k
invariant-loop-k l = length l.follows.items ≡ l.trail.vars
