use Rattle.queue_laws.proofs.Reactivated.{one_more}
use Rattle.queue_laws.proofs.remembering.one_more_is_remembered.Goals as goal

pub returns : goal.returns
returns c = one_more c.names_tell_steps.ensures
