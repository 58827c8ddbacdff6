use Rattle.std.proofs.Common.{◌≡◌}
use Rattle.sat_core.proofs.learning.bump.Given as goal

abbrev pub invariant-loop-lit : goal.invariant-loop-lit
invariant-loop-lit l = l.trail ≡ l.fn.trail
