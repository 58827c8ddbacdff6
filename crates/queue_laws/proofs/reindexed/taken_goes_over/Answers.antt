use Rattle.queue_laws.proofs.Reindexing.{over}
use Rattle.queue_laws.proofs.reindexed.taken_goes_over.Goals as goal

pub returns : goal.returns
returns c = over c.first_priority_is_first.ensures
