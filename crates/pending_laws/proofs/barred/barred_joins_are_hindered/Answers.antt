use Rattle.pending_laws.proofs.BarredJoins.{joins_hindered}
use Rattle.pending_laws.proofs.barred.barred_joins_are_hindered.Goals as goal

pub returns : goal.returns
returns c = joins_hindered c.barriers_hinder.ensures
