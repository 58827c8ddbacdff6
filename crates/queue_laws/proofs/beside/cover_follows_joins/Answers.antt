use Rattle.queue_laws.proofs.Joined.{follows}
use Rattle.queue_laws.proofs.beside.cover_follows_joins.Goals as goal

pub returns : goal.returns
returns c = follows c.cover_is_of_each.ensures c.rules_are_order_keyed.ensures
