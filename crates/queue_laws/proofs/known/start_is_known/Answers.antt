use Rattle.queue_laws.proofs.Moves.{start}
use Rattle.queue_laws.proofs.known.start_is_known.Goals as goal

pub returns : goal.returns
returns c = start c.marks_are_names.ensures c.start_is_pending.ensures
