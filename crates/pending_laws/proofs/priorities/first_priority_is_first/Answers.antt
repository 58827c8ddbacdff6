use Rattle.pending_laws.proofs.Ordered.{first_is_first}
use Rattle.pending_laws.proofs.priorities.first_priority_is_first.Goals as goal

pub returns : goal.returns
returns c = first_is_first
