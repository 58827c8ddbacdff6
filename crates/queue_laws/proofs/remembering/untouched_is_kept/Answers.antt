use Rattle.queue_laws.proofs.Reactivated.{kept}
use Rattle.queue_laws.proofs.remembering.untouched_is_kept.Goals as goal

pub returns : goal.returns
returns c = kept
