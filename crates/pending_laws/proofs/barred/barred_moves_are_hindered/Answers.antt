use Rattle.pending_laws.proofs.BarredItems.{moves_hindered}
use Rattle.pending_laws.proofs.barred.barred_moves_are_hindered.Goals as goal

pub returns : goal.returns
returns c = moves_hindered c.barred_joins_are_hindered.ensures c.lower_barred_joins_are_hindered.ensures c.lower_barred_shares_are_hindered.ensures
