use Rattle.queue_laws.proofs.Covered.{of_each}
use Rattle.queue_laws.proofs.beside.cover_is_of_each.Goals as goal

pub returns : goal.returns
returns c = of_each c.order_keyed_rules_stand.ensures
