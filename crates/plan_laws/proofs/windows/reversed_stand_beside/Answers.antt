use Rattle.plan_laws.proofs.Window.Beside.{reversed_stand_beside}
use Rattle.plan_laws.proofs.windows.reversed_stand_beside.Goals as goal

pub returns : goal.returns
returns c = reversed_stand_beside
