use Rattle.std.proofs.Common.{take}
use Rattle.step_obstacles.proofs.specificities.have_one_of.Given as goal
use Rattle.step_obstacles.specs.Turns.{HaveOneOf}

-- none of the first ones has one of these
abbrev pub invariant-loop-item : goal.invariant-loop-item
invariant-loop-item l = HaveOneOf l.specificities (take l.item-index l.selectors) → ⊥
