use Rattle.pending_laws.proofs.Created.{owner_stays}
use Rattle.pending_laws.proofs.item_ids.owners_stay.Goals as goal

pub returns : goal.returns
returns c = owner_stays
