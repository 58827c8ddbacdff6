use Rattle.std.proofs.Common.{◌≡◌, ◌++◌, length, map}
use Rattle.step_candidates.specs.Ranking.{ranked_step}
use Rattle.step_candidates.proofs.found.steps_of.Given as goal

-- the steps so far, and those of what is left
abbrev pub invariant-rest : goal.invariant-rest
invariant-rest l = l.steps.items ++ map ranked_step l.rest ≡ map ranked_step l.initial.rest

abbrev pub decreases-rest : goal.decreases-rest
decreases-rest l = length l.rest
