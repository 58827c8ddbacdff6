use Rattle.plan_laws.proofs.Barrier.Hindrances.{hindrances_stay}
use Rattle.plan_laws.proofs.staying.hindrances_stay.Goals as goal

pub returns : goal.returns
returns c = hindrances_stay
