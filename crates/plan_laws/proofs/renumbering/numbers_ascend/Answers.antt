use Rattle.plan_laws.proofs.Barrier.Renumbers.{numbers_ascend}
use Rattle.plan_laws.proofs.renumbering.numbers_ascend.Goals as goal

pub returns : goal.returns
returns c = numbers_ascend
