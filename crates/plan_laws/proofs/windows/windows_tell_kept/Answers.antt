use Rattle.plan_laws.proofs.Window.TellingKept.{windows_tell_kept}
use Rattle.plan_laws.proofs.windows.windows_tell_kept.Goals as goal

pub returns : goal.returns
returns c = windows_tell_kept
