use Rattle.order_laws.proofs.reversing.rearranging_keeps.Goals as goal
use Rattle.order_laws.proofs.Rearranging.{rearranging_keeps}

pub returns : goal.returns
returns c = rearranging_keeps
