use Rattle.plan_laws.proofs.Barrier.Hindering.{barriers_hinder}
use Rattle.plan_laws.proofs.barriers.barriers_hinder.Goals as goal

pub returns : goal.returns
returns c = barriers_hinder
