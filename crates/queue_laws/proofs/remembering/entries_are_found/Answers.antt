use Rattle.queue_laws.proofs.Reactivated.{found}
use Rattle.queue_laws.proofs.remembering.entries_are_found.Goals as goal

pub returns : goal.returns
returns c = found
