use Rattle.pending_laws.proofs.LowerBarredJoins.{joins_hindered}
use Rattle.pending_laws.proofs.barred.lower_barred_joins_are_hindered.Goals as goal

pub returns : goal.returns
returns c = joins_hindered c.lower_barriers_hinder.ensures
