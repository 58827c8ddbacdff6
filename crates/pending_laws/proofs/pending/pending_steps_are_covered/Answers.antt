use Rattle.pending_laws.proofs.PendingSteps.{covered}
use Rattle.pending_laws.proofs.pending.pending_steps_are_covered.Goals as goal

pub returns : goal.returns
returns c = covered c.hindered_is_blocked.ensures
