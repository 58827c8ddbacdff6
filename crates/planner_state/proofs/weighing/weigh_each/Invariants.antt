use Rattle.std.proofs.Common.{ℕ, ◌<◌}
use Rattle.planner_state.specs.Weighing.{IsWeighedAt, Stay}
use Rattle.planner_state.proofs.weighing.weigh_each.Given as goal

-- the items so far are weighed
abbrev pub invariant-numbers : goal.invariant-numbers
invariant-numbers l = record {
  weighed : (n : ℕ) → n < l.number → IsWeighedAt l.source l.next l.indexed l.weights n;
  stay : Stay (λ b. b < l.next) l.initial.weights l.weights;
}
