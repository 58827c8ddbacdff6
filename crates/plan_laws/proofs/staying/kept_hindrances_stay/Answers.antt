use Rattle.plan_laws.proofs.Barrier.Hindrances.{kept_hindrances_stay}
use Rattle.plan_laws.proofs.staying.kept_hindrances_stay.Goals as goal

pub returns : goal.returns
returns c = kept_hindrances_stay
