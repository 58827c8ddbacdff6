use Rattle.queue_laws.proofs.Covered.{others_covered}
use Rattle.queue_laws.proofs.beside.others_stay_covered.Goals as goal

pub returns : goal.returns
returns c = others_covered
