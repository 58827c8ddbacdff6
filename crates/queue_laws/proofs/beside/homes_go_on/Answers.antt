use Rattle.queue_laws.proofs.Covered.{homes_on}
use Rattle.queue_laws.proofs.beside.homes_go_on.Goals as goal

pub returns : goal.returns
returns c = homes_on
