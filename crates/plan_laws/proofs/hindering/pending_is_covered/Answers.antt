use Rattle.plan_laws.proofs.Barrier.Pending.{pending_covered}
use Rattle.plan_laws.proofs.hindering.pending_is_covered.Goals as goal

pub returns : goal.returns
returns c = pending_covered
