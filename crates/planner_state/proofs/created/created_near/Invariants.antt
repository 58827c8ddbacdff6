use Rattle.std.proofs.Common.{◌-◌}
use Rattle.planner_state.proofs.ItemIds.{CreatedSoFar}
use Rattle.planner_state.proofs.created.created_near.Given as goal

-- the numbers so far are those of the item ids so far
abbrev pub invariant-item_ids : goal.invariant-item_ids
invariant-item_ids l = CreatedSoFar l.marks l.next l.item_id l.numbers.items

abbrev pub decreases-item_ids : goal.decreases-item_ids
decreases-item_ids l = l.end - l.item_id
