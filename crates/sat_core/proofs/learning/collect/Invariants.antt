use Rattle.std.proofs.Common.{◌≡◌, take}
use Rattle.sat_trail.specs.Trail.{lits}
use Rattle.sat_core.specs.Analysis.{marked}
use Rattle.sat_core.proofs.learning.collect.Given as goal

abbrev pub invariant-loop-k : goal.invariant-loop-k
invariant-loop-k l = l.clause.items ≡ marked l.seen (lits (take l.k l.trail.entries))
