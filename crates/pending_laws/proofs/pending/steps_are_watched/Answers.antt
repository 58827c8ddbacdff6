use Rattle.pending_laws.proofs.PendingSteps.{watch}
use Rattle.pending_laws.proofs.pending.steps_are_watched.Goals as goal

pub returns : goal.returns
returns c = watch
