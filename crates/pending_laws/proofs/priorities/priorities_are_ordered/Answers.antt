use Rattle.pending_laws.proofs.Ordered.{are_ordered}
use Rattle.pending_laws.proofs.priorities.priorities_are_ordered.Goals as goal

pub returns : goal.returns
returns c = are_ordered
