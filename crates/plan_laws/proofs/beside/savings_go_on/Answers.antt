use Rattle.plan_laws.proofs.Barrier.Coming.{savings_go_on}
use Rattle.plan_laws.proofs.beside.savings_go_on.Goals as goal

pub returns : goal.returns
returns c = savings_go_on c.steps_weigh.ensures
