use Rattle.queue_laws.proofs.Reactivated.{more_remembered}
use Rattle.queue_laws.proofs.remembering.more_are_remembered.Goals as goal

pub returns : goal.returns
returns c = more_remembered
