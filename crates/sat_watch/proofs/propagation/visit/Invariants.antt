use Rattle.std.proofs.Common.{length}
use Rattle.sat_arena.specs.Arena.{watch_list}
use Rattle.sat_arena.proofs.ForCallers.{rest_from}
use Rattle.sat_watch.proofs.VisitLemmas.{IsVisit}
use Rattle.sat_watch.proofs.propagation.visit.Given as goal

abbrev pub invariant-walk : goal.invariant-walk
invariant-walk l = IsVisit l.fn.arena l.fn.trail l.head l.lit l.arena l.trail l.before l.next

abbrev pub decreases-walk : goal.decreases-walk
decreases-walk l = length (rest_from (watch_list l.arena l.lit) l.next)
