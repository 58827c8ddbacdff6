use Rattle.plan_laws.proofs.Barrier.Between.{reversed_where_between}
use Rattle.plan_laws.proofs.keyed.reversed_where_between.Goals as goal

pub returns : goal.returns
returns c = reversed_where_between
