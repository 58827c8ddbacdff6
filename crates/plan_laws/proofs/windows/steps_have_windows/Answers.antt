use Rattle.plan_laws.proofs.Window.StepWindows.{steps_have_windows}
use Rattle.plan_laws.proofs.windows.steps_have_windows.Goals as goal

pub returns : goal.returns
returns c = steps_have_windows
