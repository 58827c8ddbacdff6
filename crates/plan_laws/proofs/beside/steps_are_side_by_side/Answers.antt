use Rattle.plan_laws.proofs.Barrier.Neighbours.{side_by_side}
use Rattle.plan_laws.proofs.beside.steps_are_side_by_side.Goals as goal

pub returns : goal.returns
returns c = side_by_side c.steps_rearrange.ensures c.cuts_rearrange.ensures c.unmoved_keep_their_order.ensures
