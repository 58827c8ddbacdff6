use Rattle.queue_laws.proofs.Moves.{none_known}
use Rattle.queue_laws.proofs.known.none_is_known.Goals as goal

pub returns : goal.returns
returns c = none_known c.none_is_passed.ensures c.passed_is_change.ensures c.pending_may_change.ensures
