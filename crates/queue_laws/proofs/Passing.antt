-- A candidate that was queued is passed.
use Rattle.std.proofs.Common.{◌≡◌, ◌⊎◌, ℕ, ◌<◌, List, ◌∷◌, ◌++◌, length, sym, ap, ◌∙◌, subst, inl, inr, arith}
use Rattle.std.specs.Prelude.{slice_index}
use Rattle.std.specs.List.{Contains}
use Rattle.std.proofs.lemmas.List.Elements.{Contains-append_right, Contains-append_cases}
use Rattle.css_model.specs.declared.sheet.Item.{Item}
use Rattle.pending_laws.specs.Candidates.{Candidate, PendingState, IsCandidateOf, IsQueued, IsWatched, IsPending, ChangesHere}
use Rattle.pending_laws.specs.Scopes.{IsInScope}
use Rattle.pending_laws.specs.Priorities.{PrioritiesAreOrdered, NamesTellSteps, named}
use Rattle.queue_laws.specs.Passed.{IsQueuedOn, IsBlockedHere, IsPassed}
use Rattle.queue_laws.proofs.ForCallers.{ascending_differ}
use Rattle.queue_laws.proofs.StepNames.{within, new_first, new_last}
use Rattle.list_facts.proofs.Members.{Contains-here, Contains-there, Contains-cons_cases}
use Rattle.order_laws.specs.Edits.{Edit}
use Rattle.plan_laws.specs.Cover.{Priority, IsSooner}
use Rattle.step_laws.specs.declared.step.Step.{Step}
use Rattle.step_laws.specs.Free.{Answered}
use Rattle.step_laws.specs.Sizes.{Saves}
use Rattle.step_laws.specs.Steps.{IsStep, first_item, last_item}
use Rattle.plan_laws.specs.Barrier.Hindering.{Hindrance, Hinders, Watched}

-- ---- What is pending changes

module _ (order : PrioritiesAreOrdered) (answers : List Answered) (source : List ℕ) (items : List Item) (h h' : PendingState) (l : Candidate) (p : IsPassed answers source items h h' l) where
  abbrev Pending : ℕ → Step → Type 0
  Pending n k = IsQueued h' n k ⊎ ((by : Hindrance) × IsWatched h' n k by)

  abbrev CandidatesBy : List ℕ → List ℕ → Candidate → ℕ → Step → Type 0
  CandidatesBy order_keys item_ids other n k = (other.priority ≡ named order_keys n k) ⊎ (IsInScope item_ids other.scope other.owner k × (IsSooner (named order_keys n k) other.priority → ⊥))

  -- what stands for a step still does
  candidates_still : (other : Candidate) (n : ℕ) (k : Step) → IsCandidateOf h other n k → IsCandidateOf h' other n k
  candidates_still other n k candidates =
      subst (λ (item_ids : List ℕ). CandidatesBy h'.order_keys item_ids other n k) (sym p.on.same_item_ids) (subst (λ (order_keys : List ℕ). CandidatesBy order_keys h.item_ids other n k) (sym p.on.same_order_keys) candidates)

  watched_still : (n : ℕ) (k : Step) (by : Hindrance) → IsWatched h n k by → IsWatched h' n k by
  watched_still n k by watched =
      subst (λ (item_ids : List ℕ). Contains h'.watched (record { priority = named item_ids n k; by = by })) (sym p.on.same_item_ids) (p.stays (record { priority = named h.item_ids n k; by = by }) watched)

  -- what the candidate stood for is pending without it
  queued_here : (k : Step) (e : Edit) (n : ℕ) → IsStep items k e → Saves source items e n → 0 < n → IsCandidateOf h l n k → Pending n k
  queued_here k e n is saves some (inl same) = inr (p.own k e n is saves some same)
  queued_here k e n is saves some (inr (in_it, no_sooner)) = which (order.2 l.priority (named h.order_keys n k))
    where
      which : IsSooner l.priority (named h.order_keys n k) ⊎ (l.priority ≡ named h.order_keys n k) ⊎ IsSooner (named h.order_keys n k) l.priority → Pending n k
      which (inl sooner) = p.on.later k e n is saves some in_it sooner
      which (inr (inl same)) = inr (p.own k e n is saves some same)
      which (inr (inr before)) = absurd (no_sooner before)

  still_pending : (k : Step) (e : Edit) (n : ℕ) → IsStep items k e → Saves source items e n → 0 < n → IsQueued h n k ⊎ ((by : Hindrance) × IsWatched h n k by) → Pending n k
  still_pending k e n is saves some (inr (by, watched)) = inr (by, watched_still n k by watched)
  still_pending k e n is saves some (inl (other, among, candidates)) = which (p.on.candidates other among)
    where
      which : (l ≡ other) ⊎ Contains h'.candidates other → Pending n k
      which (inl same) = queued_here k e n is saves some (subst (λ (x : Candidate). IsCandidateOf h x n k) (sym same) candidates)
      which (inr stays) = inl (other, stays, candidates_still other n k candidates)

  pub changes : ChangesHere answers source items h h'
  changes = record { same_order_keys = p.on.same_order_keys; same_item_ids = p.on.same_item_ids; same_next = p.on.same_next; pending = still_pending; watched = p.fresh }

-- ---- The two ways to pass a priority

pub none_passed : (answers : List Answered) (source : List ℕ) (items : List Item) (h h' : PendingState) (l : Candidate) → IsQueuedOn source items h h' l →
    ((k : Step) (e : Edit) (n : ℕ) → IsStep items k e → Saves source items e n → 0 < n → l.priority ≡ named h.order_keys n k → ⊥) →
    h'.watched ≡ h.watched → IsPassed answers source items h h' l
none_passed answers source items h h' l on none same = record {
  on = on;
  stays = λ a among. subst (λ (asides : List Watched). Contains asides a) (sym same) among;
  own = λ k e n is saves some priority. absurd (none k e n is saves some priority);
  fresh = λ a among. inl (subst (λ (asides : List Watched). Contains asides a) same among);
}

pub more_passed : (answers : List Answered) (source : List ℕ) (items : List Item) (h h' : PendingState) (l : Candidate) (more : List Watched) → IsQueuedOn source items h h' l →
    ((k : Step) (e : Edit) (n : ℕ) → IsStep items k e → Saves source items e n → 0 < n → l.priority ≡ named h.order_keys n k → (by : Hindrance) × IsWatched h' n k by) →
    h'.watched ≡ more ++ h.watched → ((a : Watched) → Contains more a → IsBlockedHere answers source items h a) → IsPassed answers source items h h' l
more_passed answers source items h h' l more on own is blocked = record {
  on = on;
  stays = λ a among. subst (λ (asides : List Watched). Contains asides a) (sym is) (Contains-append_right more h.watched a among);
  own = own;
  fresh = λ a among. which a (Contains-append_cases more h.watched a (subst (λ (asides : List Watched). Contains asides a) is among));
}
  where
    which : (a : Watched) → Contains more a ⊎ Contains h.watched a → Contains h.watched a ⊎ IsBlockedHere answers source items h a
    which a (inl new) = inr (blocked a new)
    which a (inr old) = inl old

module _ (tell : NamesTellSteps) (asked answers : List Answered) (source : List ℕ) (items : List Item) (h h' : PendingState) (l : Candidate) (pending : IsPending asked source items h) (on : IsQueuedOn source items h h' l)
    (k : Step) (e : Edit) (n : ℕ) (by : Hindrance) (is : IsStep items k e) (saves : Saves source items e n) (some : 0 < n) (priority : l.priority ≡ named h.order_keys n k) (hinders : Hinders answers items e by)
    (one : h'.watched ≡ record { priority = named h.item_ids n k; by = by } ∷ h.watched) where
  abbrev new : Watched
  new = record { priority = named h.item_ids n k; by = by }

  one_by_order_keys : (k' : Step) (e' : Edit) (m : ℕ) → IsStep items k' e' → named h.order_keys n k ≡ named h.order_keys m k' → (n ≡ m) × (k ≡ k') × (e ≡ e')
  one_by_order_keys k' e' m is' same = tell items h.order_keys pending.order_keys.beside (ascending_differ h.order_keys pending.order_keys.ascend) k k' e e' is is' n m same

  one_by_item_ids : (k' : Step) (e' : Edit) (m : ℕ) → IsStep items k' e' → named h.item_ids n k ≡ named h.item_ids m k' → (n ≡ m) × (k ≡ k') × (e ≡ e')
  one_by_item_ids k' e' m is' same = tell items h.item_ids pending.item_ids.beside pending.item_ids.differ k k' e e' is is' n m same

  own : (k' : Step) (e' : Edit) (m : ℕ) → IsStep items k' e' → Saves source items e' m → 0 < m → l.priority ≡ named h.order_keys m k' → (by : Hindrance) × IsWatched h' m k' by
  own k' e' m is' saves' some' priority' =
      let w : (n ≡ m) × (k ≡ k') × (e ≡ e') = one_by_order_keys k' e' m is' (sym priority ∙ priority') in
      let same : named h.item_ids n k ≡ named h'.item_ids m k' = ap (λ i. named h.item_ids i k) w.0 ∙ ap (λ x. named h.item_ids m x) w.1 ∙ sym (ap (λ item_ids. named item_ids m k') on.same_item_ids) in
      (by, subst (λ (t : Priority). Contains h'.watched (record { priority = t; by = by })) same (subst (λ (asides : List Watched). Contains asides new) (sym one) (Contains-here new h.watched)))

  new_blocked : IsBlockedHere answers source items h new
  new_blocked =
      let w : (first_item k < length items) × (last_item k < length items) = within items k e is in (
        subst (λ m. m < h.next) (sym (new_first (λ m. slice_index h.item_ids m) k)) (pending.item_ids.past (first_item k) 0 (let b = pending.item_ids.beside in omega (arith, b, w.0))),
        subst (λ m. m < h.next) (sym (new_last (λ m. slice_index h.item_ids m) k)) (pending.item_ids.past (last_item k) 0 (let b = pending.item_ids.beside in omega (arith, b, w.1))),
        λ k' e' m is' saves' some' same. subst (λ (x : Edit). Hinders answers items x by) (one_by_item_ids k' e' m is' same).2 hinders,
      )

  fresh : (a : Watched) → Contains h'.watched a → Contains h.watched a ⊎ IsBlockedHere answers source items h a
  fresh a among = which (Contains-cons_cases new h.watched a (subst (λ (asides : List Watched). Contains asides a) one among))
    where
      which : (new ≡ a) ⊎ Contains h.watched a → Contains h.watched a ⊎ IsBlockedHere answers source items h a
      which (inl same) = inr (subst (IsBlockedHere answers source items h) same new_blocked)
      which (inr old) = inl old

  pub blocked_passed : IsPassed answers source items h h' l
  blocked_passed = record {
    on = on;
    stays = λ a among. subst (λ (asides : List Watched). Contains asides a) (sym one) (Contains-there new h.watched a among);
    own = own;
    fresh = fresh;
  }
