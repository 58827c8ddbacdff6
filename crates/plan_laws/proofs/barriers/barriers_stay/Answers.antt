use Rattle.plan_laws.proofs.Barrier.Others.{barriers_stay}
use Rattle.plan_laws.proofs.barriers.barriers_stay.Goals as goal

pub returns : goal.returns
returns c = barriers_stay
