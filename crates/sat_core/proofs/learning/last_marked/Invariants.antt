use Rattle.sat_core.specs.Analysis.{AreUnmarked}
use Rattle.sat_core.proofs.learning.last_marked.Given as goal

abbrev pub invariant-loop-k : goal.invariant-loop-k
invariant-loop-k l = AreUnmarked l.trail.entries l.seen l.k l.at
