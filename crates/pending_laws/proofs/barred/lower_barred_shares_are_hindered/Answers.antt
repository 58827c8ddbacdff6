use Rattle.pending_laws.proofs.LowerBarredShares.{shares_hindered}
use Rattle.pending_laws.proofs.barred.lower_barred_shares_are_hindered.Goals as goal

pub returns : goal.returns
returns c = shares_hindered
