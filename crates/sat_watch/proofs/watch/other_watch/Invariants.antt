use Rattle.std.proofs.Common.{take}
use Rattle.sat_arena.specs.Arena.{clause_at}
use Rattle.sat_trail.specs.Trail.{lits}
use Rattle.sat_watch.specs.Watch.{AreFalseBut}
use Rattle.sat_watch.proofs.watch.other_watch.Given as goal

abbrev pub invariant-loop-k : goal.invariant-loop-k
invariant-loop-k l = AreFalseBut (take l.k (clause_at l.arena l.clause).lits) (lits l.trail.entries) l.one l.other
