use Rattle.pending_laws.proofs.Queued.{may_change}
use Rattle.pending_laws.proofs.candidates.pending_may_change.Goals as goal

pub returns : goal.returns
returns c = may_change
