use Rattle.plan_laws.proofs.Barrier.Behind.{joins_stay}
use Rattle.plan_laws.proofs.renumbering.joins_stay.Goals as goal

pub returns : goal.returns
returns c = joins_stay
