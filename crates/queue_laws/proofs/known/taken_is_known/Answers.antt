use Rattle.queue_laws.proofs.Moves.{taken_known}
use Rattle.queue_laws.proofs.known.taken_is_known.Goals as goal

pub returns : goal.returns
returns c = taken_known c.kept_are_renamed.ensures c.untouched_is_kept.ensures c.remembered_is_reactivated.ensures c.remembered_goes_over.ensures c.taken_goes_over.ensures c.pending_goes_over.ensures
