use Rattle.std.proofs.Common.{◌≡◌, length}
use Rattle.step_obstacles.proofs.decl_masks.bits_of.Given as goal
use Rattle.step_obstacles.specs.Turns.{with_masks}

abbrev pub invariant-rest : goal.invariant-rest
invariant-rest l = with_masks l.bits l.rest ≡ with_masks 0 l.initial.rest

abbrev pub decreases-rest : goal.decreases-rest
decreases-rest l = length l.rest
