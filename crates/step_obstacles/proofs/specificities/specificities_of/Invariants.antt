use Rattle.std.proofs.Common.{◌≡◌, take}
use Rattle.step_obstacles.proofs.specificities.specificities_of.Given as goal
use Rattle.step_obstacles.specs.Turns.{specificities_of}

abbrev pub invariant-loop-item : goal.invariant-loop-item
invariant-loop-item l = l.list.items ≡ specificities_of (take l.item-index l.selectors)
