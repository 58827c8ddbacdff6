use Rattle.queue_laws.proofs.Moves.{more_known}
use Rattle.queue_laws.proofs.known.more_is_known.Goals as goal

pub returns : goal.returns
returns c = more_known c.more_is_passed.ensures c.passed_is_change.ensures c.pending_may_change.ensures c.more_are_remembered.ensures
