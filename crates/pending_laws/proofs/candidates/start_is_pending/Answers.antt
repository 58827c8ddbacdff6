use Rattle.pending_laws.proofs.Queued.{start_pending}
use Rattle.pending_laws.proofs.candidates.start_is_pending.Goals as goal

pub returns : goal.returns
returns c = start_pending c.first_priority_is_first.ensures
