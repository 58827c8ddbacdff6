use Rattle.planner_state.specs.Enqueuing.{StayBefore}
use Rattle.planner_state.proofs.Enqueued.{SoFar}
use Rattle.planner_state.proofs.enqueuing.enqueue_each.Given as goal

-- the items so far are enqueued
abbrev pub invariant-numbers : goal.invariant-numbers
invariant-numbers l = record {
  so_far : SoFar l.put l.next l.number l.marks l.items l.tables l.queue l.homes.items;
  stay : StayBefore l.next l.initial.tables l.initial.queue l.initial.homes.items l.tables l.queue l.homes.items;
}
