use Rattle.order_laws.proofs.reversing.unmoved_keep_their_order.Goals as goal
use Rattle.order_laws.proofs.Rearranging.{unmoved_keep_their_order}

pub returns : goal.returns
returns c = unmoved_keep_their_order
