use Rattle.queue_laws.proofs.Passing.{changes}
use Rattle.queue_laws.proofs.passed.passed_is_change.Goals as goal

pub returns : goal.returns
returns c = changes c.priorities_are_ordered.ensures
