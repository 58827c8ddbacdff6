use Rattle.pending_laws.proofs.BarredPriorities.{moves_barred}
use Rattle.pending_laws.proofs.barred.moves_are_barred.Goals as goal

pub returns : goal.returns
returns c = moves_barred
