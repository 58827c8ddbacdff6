use Rattle.std.proofs.Common.{length}
use Rattle.hint_clauses.proofs.runs.+push_aside.Given as goal

abbrev pub decreases-push_aside : goal.decreases-push_aside
decreases-push_aside l = length l.more.now
