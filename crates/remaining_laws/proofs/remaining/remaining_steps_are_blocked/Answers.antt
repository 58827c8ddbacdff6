use Rattle.remaining_laws.proofs.Blocking.{blocked}
use Rattle.remaining_laws.proofs.remaining.remaining_steps_are_blocked.Goals as goal

pub returns : goal.returns
returns c = blocked
