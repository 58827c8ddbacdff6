use Rattle.std.proofs.Common.{◌≡◌, take}
use Rattle.step_obstacles.proofs.selector_masks.selector_masks_of.Given as goal
use Rattle.step_obstacles.specs.Turns.{selector_masks_of}

abbrev pub invariant-loop-item : goal.invariant-loop-item
invariant-loop-item l = l.list.items ≡ selector_masks_of (take l.item-index l.selectors)
