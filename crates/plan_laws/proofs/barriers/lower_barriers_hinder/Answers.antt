use Rattle.plan_laws.proofs.Barrier.LowerBarriers.{lower_barriers_hinder}
use Rattle.plan_laws.proofs.barriers.lower_barriers_hinder.Goals as goal

pub returns : goal.returns
returns c = lower_barriers_hinder
