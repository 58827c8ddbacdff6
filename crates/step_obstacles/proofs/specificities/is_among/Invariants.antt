use Rattle.std.proofs.Common.{◌↔◌, length}
use Rattle.std.specs.List.{Contains}
use Rattle.step_obstacles.proofs.specificities.is_among.Given as goal

-- it is none of the first ones
abbrev pub invariant-rest : goal.invariant-rest
invariant-rest l = Contains l.rest l.specificity ↔ Contains l.initial.rest l.specificity

abbrev pub decreases-rest : goal.decreases-rest
decreases-rest l = length l.rest
