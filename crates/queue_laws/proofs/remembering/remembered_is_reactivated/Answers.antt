use Rattle.queue_laws.proofs.Reactivated.{reactivated}
use Rattle.queue_laws.proofs.remembering.remembered_is_reactivated.Goals as goal

pub returns : goal.returns
returns c = reactivated c.candidates_go_on.ensures
