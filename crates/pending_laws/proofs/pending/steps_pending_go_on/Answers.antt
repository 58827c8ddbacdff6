use Rattle.pending_laws.proofs.PendingSteps.{pending_on}
use Rattle.pending_laws.proofs.pending.steps_pending_go_on.Goals as goal

pub returns : goal.returns
returns c = pending_on c.steps_have_been.ensures c.hindered_goes_on.ensures
