use Rattle.std.proofs.Common.{length}
use Rattle.hint_clauses.proofs.gaps.+add_top_given.Given as goal

abbrev pub decreases-add_top_given : goal.decreases-add_top_given
decreases-add_top_given l = length l.digits.now
