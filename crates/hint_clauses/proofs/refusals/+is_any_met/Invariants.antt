use Rattle.std.proofs.Common.{length}
use Rattle.hint_clauses.proofs.refusals.+is_any_met.Given as goal

abbrev pub decreases-is_any_met : goal.decreases-is_any_met
decreases-is_any_met l = length l.joints.now
