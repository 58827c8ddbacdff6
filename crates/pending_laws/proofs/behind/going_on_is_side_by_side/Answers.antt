use Rattle.pending_laws.proofs.Beside.{side_by_side}
use Rattle.pending_laws.proofs.behind.going_on_is_side_by_side.Goals as goal

pub returns : goal.returns
returns c = side_by_side c.steps_are_side_by_side.ensures c.steps_rearrange.ensures c.items_stay.ensures c.edits_commute.ensures c.joins_stay.ensures
