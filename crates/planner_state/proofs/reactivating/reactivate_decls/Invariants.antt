use Rattle.std.proofs.Common.{◌⊎◌, ℕ, length}
use Rattle.std.specs.List.{Contains}
use Rattle.pending_laws.specs.Candidates as pending
use Rattle.planner_state.specs.Reactivating as spec
use Rattle.planner_state.proofs.reactivating.reactivate_decls.Given as goal

-- the pair of each digest of a declaration is active, or is still to come
abbrev pub invariant-rest : goal.invariant-rest
invariant-rest l = record {
  stay : (h : pending.Candidate) → Contains l.initial.queue h → Contains l.queue h;
  active : (d : ℕ) → Contains l.initial.rest d → spec.IsActiveUnder l.watched l.queue l.selector d ⊎ Contains l.rest d;
}

abbrev pub decreases-rest : goal.decreases-rest
decreases-rest l = length l.rest
