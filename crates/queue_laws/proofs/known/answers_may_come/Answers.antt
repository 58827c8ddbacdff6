use Rattle.queue_laws.proofs.Moves.{more_answers}
use Rattle.queue_laws.proofs.known.answers_may_come.Goals as goal

pub returns : goal.returns
returns c = more_answers c.pending_may_change.ensures
