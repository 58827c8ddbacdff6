use Rattle.plan_laws.proofs.Barrier.Coming.{steps_come_back}
use Rattle.plan_laws.proofs.beside.steps_come_back.Goals as goal

pub returns : goal.returns
returns c = steps_come_back
