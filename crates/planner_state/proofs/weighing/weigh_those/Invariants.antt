use Rattle.std.proofs.Common.{◌⊎◌, ℕ, ◌<◌, length}
use Rattle.std.specs.List.{Contains}
use Rattle.planner_state.specs.Weighing.{IsWeighedAt, Stay}
use Rattle.planner_state.proofs.weighing.weigh_those.Given as goal

-- the item of each number is weighed, or is still to come
abbrev pub invariant-rest : goal.invariant-rest
invariant-rest l = record {
  there : (n : ℕ) → Contains l.rest n → n < length l.indexed.items;
  weighed : (n : ℕ) → Contains l.initial.rest n → IsWeighedAt l.source l.next l.indexed l.weights n ⊎ Contains l.rest n;
  stay : Stay (λ b. b < l.next) l.initial.weights l.weights;
}

abbrev pub decreases-rest : goal.decreases-rest
decreases-rest l = length l.rest
