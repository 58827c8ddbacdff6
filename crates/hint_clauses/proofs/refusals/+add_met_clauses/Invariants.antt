use Rattle.std.proofs.Common.{length}
use Rattle.hint_clauses.proofs.refusals.+add_met_clauses.Given as goal

abbrev pub decreases-add_met_clauses : goal.decreases-add_met_clauses
decreases-add_met_clauses l = length l.joints.now
