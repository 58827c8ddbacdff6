use Rattle.plan_laws.proofs.Barrier.Pending.{hindered_blocked}
use Rattle.plan_laws.proofs.hindering.hindered_is_blocked.Goals as goal

pub returns : goal.returns
returns c = hindered_blocked
