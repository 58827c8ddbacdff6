use Rattle.pending_laws.proofs.OwnParts.{own_parts_stay}
use Rattle.pending_laws.proofs.facts.own_parts_stay.Goals as goal

pub returns : goal.returns
returns c = own_parts_stay c.items_stay.ensures
