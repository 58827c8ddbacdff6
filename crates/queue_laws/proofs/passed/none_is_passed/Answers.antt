use Rattle.queue_laws.proofs.Passing.{none_passed}
use Rattle.queue_laws.proofs.passed.none_is_passed.Goals as goal

pub returns : goal.returns
returns c = none_passed
