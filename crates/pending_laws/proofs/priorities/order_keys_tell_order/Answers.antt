use Rattle.pending_laws.proofs.Ordered.{told_by_order_keys}
use Rattle.pending_laws.proofs.priorities.order_keys_tell_order.Goals as goal

pub returns : goal.returns
returns c = told_by_order_keys c.priorities_are_ordered.ensures
