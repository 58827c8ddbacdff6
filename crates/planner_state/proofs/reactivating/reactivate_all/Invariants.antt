use Rattle.std.proofs.Common.{◌⊎◌, length}
use Rattle.std.specs.List.{Contains}
use Rattle.pending_laws.specs.Candidates as pending
use Rattle.step_queue.specs.Told.{candidate_told}
use Rattle.step_queue.specs.declared.candidate.Candidate.{Candidate}
use Rattle.planner_state.proofs.reactivating.reactivate_all.Given as goal

-- each candidate is active, or is still to come
abbrev pub invariant-rest : goal.invariant-rest
invariant-rest l = record {
  stay : (h : pending.Candidate) → Contains l.initial.queue h → Contains l.queue h;
  active : (x : Candidate) → Contains l.initial.rest x → Contains l.queue (candidate_told x) ⊎ Contains l.rest x;
}

abbrev pub decreases-rest : goal.decreases-rest
decreases-rest l = length l.rest
