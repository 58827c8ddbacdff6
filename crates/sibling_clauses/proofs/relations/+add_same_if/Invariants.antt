use Rattle.std.proofs.Common.{length}
use Rattle.sibling_clauses.proofs.relations.+add_same_if.Given as goal

abbrev pub decreases-add_same_if : goal.decreases-add_same_if
decreases-add_same_if l = length l.x.now
