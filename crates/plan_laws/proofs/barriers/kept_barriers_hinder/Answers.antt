use Rattle.plan_laws.proofs.Barrier.KeptBarriers.{kept_barriers_hinder}
use Rattle.plan_laws.proofs.barriers.kept_barriers_hinder.Goals as goal

pub returns : goal.returns
returns c = kept_barriers_hinder
