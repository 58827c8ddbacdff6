use Rattle.std.proofs.Common.{◌≡◌, take, map}
use Rattle.step_obstacles.proofs.decl_masks.masks_of.Given as goal
use Rattle.step_obstacles.specs.Turns.{mask_in}

abbrev pub invariant-loop-item : goal.invariant-loop-item
invariant-loop-item l = l.list.items ≡ map (mask_in l.with) (take l.item-index l.decls)
