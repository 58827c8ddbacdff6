use Rattle.pending_laws.proofs.BarredItems.{barred_on}
use Rattle.pending_laws.proofs.barred.barred_items_go_on.Goals as goal

pub returns : goal.returns
returns c = barred_on c.parts_stay.ensures c.barriers_go_on.ensures c.lower_barriers_go_on.ensures
