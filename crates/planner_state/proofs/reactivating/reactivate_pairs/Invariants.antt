use Rattle.std.proofs.Common.{◌⊎◌, ◌∷◌, [], ℕ, length}
use Rattle.std.specs.List.{Contains}
use Rattle.pending_laws.specs.Candidates as pending
use Rattle.planner_state.specs.Reactivating as spec
use Rattle.planner_state.proofs.reactivating.reactivate_pairs.Given as goal

-- the pairs of each digest of a selector are active, or are still to come
abbrev pub invariant-rest : goal.invariant-rest
invariant-rest l = record {
  stay : (h : pending.Candidate) → Contains l.initial.queue h → Contains l.queue h;
  active : (s : ℕ) → Contains l.initial.rest s → spec.AreActiveUnder l.watched l.queue (s ∷ []) l.decls ⊎ Contains l.rest s;
}

abbrev pub decreases-rest : goal.decreases-rest
decreases-rest l = length l.rest
