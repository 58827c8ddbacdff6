use Rattle.plan_laws.proofs.Barrier.Renumbers.{items_stay}
use Rattle.plan_laws.proofs.renumbering.items_stay.Goals as goal

pub returns : goal.returns
returns c = items_stay
