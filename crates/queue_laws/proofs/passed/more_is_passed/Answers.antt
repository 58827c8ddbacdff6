use Rattle.queue_laws.proofs.Passing.{more_passed}
use Rattle.queue_laws.proofs.passed.more_is_passed.Goals as goal

pub returns : goal.returns
returns c = more_passed
