-- A candidate that was queued and is passed: what it stood for is queued by others, or is on the watch list with what blocks it (own).
use Rattle.std.specs.Prelude.{◌≡◌, ◌⊎◌, ℕ, ◌<◌, List, ◌∷◌, ◌++◌}
use Rattle.std.specs.List.{Contains}
use Rattle.css_model.specs.declared.sheet.Item.{Item}
use Rattle.pending_laws.specs.Candidates.{Candidate, PendingState, IsQueued, IsWatched, IsPending, ChangesHere}
use Rattle.pending_laws.specs.Scopes.{IsInScope}
use Rattle.pending_laws.specs.Priorities.{named}
use Rattle.order_laws.specs.Edits.{Edit}
use Rattle.plan_laws.specs.Cover.{IsSooner}
use Rattle.step_laws.specs.declared.step.Step.{Step}
use Rattle.step_laws.specs.Free.{Answered}
use Rattle.step_laws.specs.Sizes.{Saves}
use Rattle.step_laws.specs.Steps.{IsStep, first_item, last_item}
use Rattle.plan_laws.specs.Barrier.Hindering.{Hindrance, Hinders, Watched}

-- A candidate was queued and is no more. The others stay, and the later steps in its scope are queued by one of them or
-- by a new one, or they are on the watch list.
pub record IsQueuedOn (source : List ℕ) (items : List Item) (h h' : PendingState) (l : Candidate) : Type 0 where
  pub same_order_keys : h'.order_keys ≡ h.order_keys
  pub same_item_ids : h'.item_ids ≡ h.item_ids
  pub same_next : h'.next ≡ h.next
  pub candidates : (other : Candidate) → Contains h.candidates other → (l ≡ other) ⊎ Contains h'.candidates other
  pub later : (k : Step) (e : Edit) (n : ℕ) → IsStep items k e → Saves source items e n → 0 < n → IsInScope h.item_ids l.scope l.owner k →
      IsSooner l.priority (named h.order_keys n k) → IsQueued h' n k ⊎ ((by : Hindrance) × IsWatched h' n k by)

-- a watched priority is one of items that were created, and its step is blocked
abbrev pub IsBlockedHere : List Answered → List ℕ → List Item → PendingState → Watched → Type 0
IsBlockedHere answers source items h a = (first_item a.priority.step < h.next) × (last_item a.priority.step < h.next)
    × ((k : Step) (e : Edit) (n : ℕ) → IsStep items k e → Saves source items e n → 0 < n → a.priority ≡ named h.item_ids n k → Hinders answers items e a.by)

-- A priority is passed: the steps that have it are on the watch list, and the others that it stood for stay queued.
pub record IsPassed (answers : List Answered) (source : List ℕ) (items : List Item) (h h' : PendingState) (l : Candidate) : Type 0 where
  pub on : IsQueuedOn source items h h' l
  pub stays : (a : Watched) → Contains h.watched a → Contains h'.watched a
  pub own : (k : Step) (e : Edit) (n : ℕ) → IsStep items k e → Saves source items e n → 0 < n → l.priority ≡ named h.order_keys n k → (by : Hindrance) × IsWatched h' n k by
  pub fresh : (a : Watched) → Contains h'.watched a → Contains h.watched a ⊎ IsBlockedHere answers source items h a

-- Where a priority is passed, what is pending changes, and all is still pending.
abbrev pub PassedIsChange : Type 0
PassedIsChange = (answers : List Answered) (source : List ℕ) (items : List Item) (h h' : PendingState) (l : Candidate) →
    IsPassed answers source items h h' l → ChangesHere answers source items h h'

-- A priority that no step has is passed where nothing is on the watch list.
abbrev pub NoneIsPassed : Type 0
NoneIsPassed = (answers : List Answered) (source : List ℕ) (items : List Item) (h h' : PendingState) (l : Candidate) → IsQueuedOn source items h h' l →
    ((k : Step) (e : Edit) (n : ℕ) → IsStep items k e → Saves source items e n → 0 < n → l.priority ≡ named h.order_keys n k → ⊥) →
    h'.watched ≡ h.watched → IsPassed answers source items h h' l

-- The priority of a step is passed where the step is on the watch list with what blocks it.
abbrev pub BlockedIsPassed : Type 0
BlockedIsPassed = (asked answers : List Answered) (source : List ℕ) (items : List Item) (h h' : PendingState) (l : Candidate) → IsPending asked source items h → IsQueuedOn source items h h' l →
    (k : Step) (e : Edit) (n : ℕ) (by : Hindrance) → IsStep items k e → Saves source items e n → 0 < n → l.priority ≡ named h.order_keys n k → Hinders answers items e by →
    h'.watched ≡ record { priority = named h.item_ids n k; by = by } ∷ h.watched → IsPassed answers source items h h' l

-- A priority is passed where priorities are on the watch list whose steps are blocked, and the steps that have it are on the watch list.
abbrev pub MoreIsPassed : Type 0
MoreIsPassed = (answers : List Answered) (source : List ℕ) (items : List Item) (h h' : PendingState) (l : Candidate) (more : List Watched) → IsQueuedOn source items h h' l →
    ((k : Step) (e : Edit) (n : ℕ) → IsStep items k e → Saves source items e n → 0 < n → l.priority ≡ named h.order_keys n k → (by : Hindrance) × IsWatched h' n k by) →
    h'.watched ≡ more ++ h.watched → ((a : Watched) → Contains more a → IsBlockedHere answers source items h a) → IsPassed answers source items h h' l
