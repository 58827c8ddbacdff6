use Rattle.queue_laws.proofs.Moves.{blocked_known}
use Rattle.queue_laws.proofs.known.blocked_is_known.Goals as goal

pub returns : goal.returns
returns c = blocked_known c.blocked_is_passed.ensures c.passed_is_change.ensures c.pending_may_change.ensures c.one_more_is_remembered.ensures
