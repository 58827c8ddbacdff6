use Rattle.clause_encode.proofs.Planned.{limits_planned}
use Rattle.clause_encode.proofs.laws.limits_allow_plans.Goals as goal

pub returns : goal.returns
returns c = limits_planned
