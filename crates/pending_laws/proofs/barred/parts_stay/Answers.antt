use Rattle.pending_laws.proofs.Barring.{parts_stay}
use Rattle.pending_laws.proofs.barred.parts_stay.Goals as goal

pub returns : goal.returns
returns c = parts_stay
