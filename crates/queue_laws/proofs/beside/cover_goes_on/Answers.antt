use Rattle.queue_laws.proofs.Covered.{cover_on}
use Rattle.queue_laws.proofs.beside.cover_goes_on.Goals as goal

pub returns : goal.returns
returns c = cover_on c.cover_is_of_each.ensures c.rules_are_order_keyed.ensures c.items_stay.ensures
