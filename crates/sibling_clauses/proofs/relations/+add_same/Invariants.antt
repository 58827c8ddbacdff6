use Rattle.std.proofs.Common.{length}
use Rattle.sibling_clauses.proofs.relations.+add_same.Given as goal

abbrev pub decreases-add_same : goal.decreases-add_same
decreases-add_same l = length l.x.now
