use Rattle.plan_laws.proofs.Window.Telling.{windows_tell_pairs}
use Rattle.plan_laws.proofs.windows.windows_tell_pairs.Goals as goal

pub returns : goal.returns
returns c = windows_tell_pairs
