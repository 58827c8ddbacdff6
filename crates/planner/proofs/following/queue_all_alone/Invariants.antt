use Rattle.std.proofs.Common.{◌⊎◌, ◌+◌, ◌≤◌, length}
use Rattle.std.specs.List.{Contains}
use Rattle.pending_laws.specs.Candidates as pending
use Rattle.planner.proofs.following.queue_all_alone.Given as goal
use Rattle.step_queue.specs.declared.candidate.Candidate.{Candidate}
use Rattle.step_queue.specs.Told.{alone}
use Rattle.step_queue.specs.Weights.{total}

-- each candidate stands alone, or is still to come
abbrev pub invariant-rest : goal.invariant-rest
invariant-rest l = record {
  stay : (h : pending.Candidate) → Contains l.initial.queue h → Contains l.queue h;
  added : (x : Candidate) → Contains l.initial.rest x → Contains l.queue (alone x) ⊎ Contains l.rest x;
  weighs : total l.queue + length l.rest ≤ total l.initial.queue + length l.initial.rest;
}

abbrev pub decreases-rest : goal.decreases-rest
decreases-rest l = length l.rest
