-- The step of a candidate that was taken out as the first of all.
use Rattle.std.proofs.Common.{◌≡◌, ◌⊎◌, ℕ, List, [], ◌∷◌, sym, subst, inl, inr}
use Rattle.std.specs.List.{Contains}
use Rattle.pending_laws.specs.Candidates as pending
use Rattle.pending_laws.specs.Candidates.{FirstCandidateIsTaken, NoCandidateIsDone}
use Rattle.pending_laws.specs.Priorities.{PrioritiesAreOrdered}
use Rattle.queue_laws.specs.MarkNames.{pending_of}
use Rattle.planner.specs.Following.{IsNextFound}
use Rattle.step_queue.specs.declared.candidate.Candidate.{Candidate}
use Rattle.step_queue.specs.Told.{candidate_told}
use Rattle.list_facts.proofs.Members.{Contains-cons_cases}
use Rattle.order_laws.specs.Edits.{Edit}
use Rattle.plan_laws.specs.Cover.{Priority, IsSooner}
use Rattle.planner_state.specs.PlanParts.{PlanParts}
use Rattle.planner_state.specs.State.{IsQueuedBy, IsState}
use Rattle.step_laws.specs.declared.step.Step.{Step}
use Rattle.step_laws.specs.Free.{Answered, IsFree}
use Rattle.step_laws.specs.Leading.{IsDone}
use Rattle.step_laws.specs.Steps.{IsStep}
use Rattle.next_step.specs.Named.{IsStepOf}

-- it is the next one, if it is free
pub first_found : FirstCandidateIsTaken → PrioritiesAreOrdered → (answers : List Answered) (source : List ℕ) (p : PlanParts) (candidate : Candidate) (k : Step) → IsQueuedBy answers source p (candidate_told candidate ∷ p.candidates) →
    ((l : pending.Candidate) → Contains p.candidates l → IsSooner l.priority (candidate_told candidate).priority → ⊥) → IsStepOf source p.indexed candidate k → ((e : Edit) → IsStep p.indexed.items k e → IsFree answers p.indexed.items e) →
    IsNextFound answers source p.indexed.items k
first_found law order answers source p candidate k queued first names free = record {
  has = names.has;
  takes = λ e is. law answers source p.indexed.items (pending_of p.indexed (candidate_told candidate ∷ p.candidates) queued.watched) queued.known.pending k e candidate.saving.0 is (free e is) names.some (names.saves e is)
      (λ l among. subst (λ (t : Priority). IsSooner l.priority t → ⊥) (sym names.priority) (not_before l (Contains-cons_cases (candidate_told candidate) p.candidates l among)));
}
  where
    not_before : (l : pending.Candidate) → (candidate_told candidate ≡ l) ⊎ Contains p.candidates l → IsSooner l.priority (candidate_told candidate).priority → ⊥
    not_before l (inl e) = λ sooner. order.0 (candidate_told candidate).priority (subst (λ (m : pending.Candidate). IsSooner m.priority (candidate_told candidate).priority) (sym e) sooner)
    not_before l (inr g) = first l g

-- where there is no candidate, nothing is left to do
pub none_left : NoCandidateIsDone → (answers : List Answered) (source : List ℕ) (p : PlanParts) → p.candidates ≡ [] → IsState answers source p → IsDone answers source p.indexed.items
none_left law answers source p none state = law answers source p.indexed.items (pending_of p.indexed p.candidates state.watched) state.known.pending none
