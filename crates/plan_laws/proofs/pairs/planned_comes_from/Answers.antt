use Rattle.plan_laws.proofs.Limit.Planned.{planned_comes_from}
use Rattle.plan_laws.proofs.pairs.planned_comes_from.Goals as goal

pub returns : goal.returns
returns c = planned_comes_from
