use Rattle.queue_laws.proofs.Moves.{watched_known}
use Rattle.queue_laws.proofs.known.watched_is_known.Goals as goal

pub returns : goal.returns
returns c = watched_known c.pending_may_change.ensures c.more_are_remembered.ensures
