use Rattle.std.proofs.Common.{◌⊎◌, ℕ, ◌<◌, length}
use Rattle.std.specs.List.{Contains}
use Rattle.planner_state.specs.Enqueuing.{IsEnqueuedAt, StayBefore}
use Rattle.planner_state.proofs.enqueuing.enqueue_those.Given as goal

-- the item of each number is enqueued, or is still to come
abbrev pub invariant-rest : goal.invariant-rest
invariant-rest l = record {
  there : (n : ℕ) → Contains l.rest n → n < length l.marks;
  enqueued : (n : ℕ) → Contains l.initial.rest n → IsEnqueuedAt l.put l.next l.marks l.items l.tables l.queue l.homes.items n ⊎ Contains l.rest n;
  stay : StayBefore l.next l.initial.tables l.initial.queue l.initial.homes.items l.tables l.queue l.homes.items;
}

abbrev pub decreases-rest : goal.decreases-rest
decreases-rest l = length l.rest
