use Rattle.queue_laws.proofs.Passing.{blocked_passed}
use Rattle.queue_laws.proofs.passed.blocked_is_passed.Goals as goal

pub returns : goal.returns
returns c = blocked_passed c.names_tell_steps.ensures
