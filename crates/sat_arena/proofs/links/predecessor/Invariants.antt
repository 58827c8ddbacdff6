use Rattle.std.proofs.Common.{length}
use Rattle.sat_arena.specs.Links.{link}
use Rattle.sat_arena.proofs.WalkLemmas.{IsAt, from_member}
use Rattle.sat_arena.proofs.links.predecessor.Given as goal

abbrev pub invariant-walk : goal.invariant-walk
invariant-walk o l = IsAt (link l.words l.lit.0) o.members l.before l.at l.clause

abbrev pub decreases-walk : goal.decreases-walk
decreases-walk o l = length (from_member o.members l.at)
