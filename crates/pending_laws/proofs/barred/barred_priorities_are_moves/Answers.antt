use Rattle.pending_laws.proofs.BarredPriorities.{are_moves}
use Rattle.pending_laws.proofs.barred.barred_priorities_are_moves.Goals as goal

pub returns : goal.returns
returns c = are_moves
