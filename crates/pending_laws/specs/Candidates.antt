-- What a plan holds in code: one priority for many steps, and what is on the watch list.
use Rattle.std.specs.Prelude.{◌≡◌, ◌⊎◌, ℕ, ◌<◌, ◌≤◌, List, [], Some, slice_get, slice_index}
use Rattle.std.specs.List.{Contains}
use Rattle.css_model.specs.declared.sheet.Item.{Item}
use Rattle.css_model.specs.Sheets.Sound.{IsSound}
use Rattle.order_laws.specs.Edits.{Edit, edited}
use Rattle.plan_laws.specs.Cover.{Priority, IsSooner}
use Rattle.step_laws.specs.declared.step.Step.{Step}
use Rattle.step_laws.specs.Free.{Answered, AreAmong, IsFree}
use Rattle.step_laws.specs.Leading.{Takes, IsDone}
use Rattle.step_laws.specs.Sizes.{size, Saves}
use Rattle.step_laws.specs.Steps.{IsStep, first_item, last_item}
use Rattle.plan_laws.specs.Barrier.Hindering.{Hindrance, Hinders, HasRoom, IsUntouched, Watched}
use Rattle.plan_laws.specs.Barrier.Renumbering.{Leaves, new_number, renumbered, IsOfOthers}
use Rattle.pending_laws.specs.Behind.{GoesOn}
use Rattle.pending_laws.specs.ItemIds.{AreItemIds, AreCreatedBehind, owner}
use Rattle.pending_laws.specs.Scopes.{Scope, Owned, IsInScope}
use Rattle.pending_laws.specs.Priorities.{named, AreOrderKeys, first_priority}

-- A candidate for its own step, and those in a scope, of an item told by its item id: of these that wait none
-- comes before it. It names items by order keys.
pub record Candidate : Type 0 where
  pub priority : Priority
  pub owner : ℕ
  pub scope : Scope

-- Beside each item its order key and its item id; the item id of the next item; the candidates; and the priorities that
-- are on the watch list, which name items by item ids.
pub record PendingState : Type 0 where
  pub order_keys : List ℕ
  pub item_ids : List ℕ
  pub next : ℕ
  pub candidates : List Candidate
  pub watched : List Watched

-- a candidate stands for a step: it is the step's own, or the step is in its scope and does not come before it
abbrev pub IsCandidateOf : PendingState → Candidate → ℕ → Step → Type 0
IsCandidateOf h l n k = (l.priority ≡ named h.order_keys n k) ⊎ (IsInScope h.item_ids l.scope l.owner k × (IsSooner (named h.order_keys n k) l.priority → ⊥))

abbrev pub IsQueued : PendingState → ℕ → Step → Type 0
IsQueued h n k = (l : Candidate) × Contains h.candidates l × IsCandidateOf h l n k

-- a step is on the watch list with what blocks it
abbrev pub IsWatched : PendingState → ℕ → Step → Hindrance → Type 0
IsWatched h n k by = Contains h.watched (record { priority = named h.item_ids n k; by = by })

-- Each step of a sheet that saves is queued or on the watch list, and what is noted with it there blocks it.
pub record IsPending (answers : List Answered) (source : List ℕ) (items : List Item) (h : PendingState) : Type 0 where
  pub item_ids : AreItemIds items h.item_ids h.next
  pub order_keys : AreOrderKeys items h.order_keys
  pub pending : (k : Step) (e : Edit) (n : ℕ) → IsStep items k e → Saves source items e n → 0 < n → IsQueued h n k ⊎ ((by : Hindrance) × IsWatched h n k by)
  pub hinders : (k : Step) (e : Edit) (n : ℕ) (by : Hindrance) → IsStep items k e → Saves source items e n → 0 < n → IsWatched h n k by → Hinders answers items e by
  pub past : (a : Watched) → Contains h.watched a → (first_item a.priority.step < h.next) × (last_item a.priority.step < h.next)

-- Where nothing is on the watch list, and each owner has a priority before which no step comes, all is pending.
abbrev pub StartIsPending : Type 0
StartIsPending = (answers : List Answered) (source : List ℕ) (items : List Item) (h : PendingState) (bound : ℕ) → AreItemIds items h.item_ids h.next → AreOrderKeys items h.order_keys → size source items ≤ bound →
    h.watched ≡ [] → ((n b : ℕ) → slice_get h.item_ids n ≡ Some b → Contains h.candidates (record { priority = first_priority bound; owner = b; scope = Owned })) → IsPending answers source items h

-- the items that an edit left keep their order keys
abbrev pub OrderKeysStay : List Item → Edit → List ℕ → List ℕ → Type 0
OrderKeysStay items d order_keys order_keys' = (n l : ℕ) → Leaves d n → slice_get order_keys n ≡ Some l → slice_get order_keys' (new_number d items n) ≡ Some l

-- What is pending of a sheet, and what of the one after an edit. The items that the edit left keep their order keys
-- and item ids, and all candidates stay queued. Of what was on the watch list that stays which the edit does not
-- touch, and any other step that goes on is queued. The steps of owners that were created after the edit are queued.
pub record GoesOver (source : List ℕ) (items : List Item) (d : Edit) (h h' : PendingState) : Type 0 where
  pub item_ids : AreItemIds (edited d items) h'.item_ids h'.next
  pub order_keys : AreOrderKeys (edited d items) h'.order_keys
  pub created : AreCreatedBehind items d h.item_ids h'.item_ids h.next
  pub order_keys_stay : OrderKeysStay items d h.order_keys h'.order_keys
  pub later : h.next ≤ h'.next
  pub candidates : (l : Candidate) → Contains h.candidates l → Contains h'.candidates l
  pub made : (k' : Step) (e' : Edit) (n : ℕ) → IsStep (edited d items) k' e' → Saves source (edited d items) e' n → 0 < n →
      h.next ≤ slice_index h'.item_ids (owner h'.item_ids k') → IsQueued h' n k'
  pub watched : (k : Step) (e : Edit) (n : ℕ) (by : Hindrance) → GoesOn items d k e → Saves source items e n → 0 < n → IsWatched h n k by →
      Contains h'.watched (record { priority = named h.item_ids n k; by = by }) ⊎ IsQueued h' n (renumbered (new_number d items) k)
  pub untouched : (a : Watched) → Contains h'.watched a → Contains h.watched a × IsUntouched d a.by

-- A candidate for a step stays one after an edit of other items.
abbrev pub CandidatesGoOn : Type 0
CandidatesGoOn = (items : List Item) (d : Edit) (h h' : PendingState) → AreItemIds items h.item_ids h.next → AreOrderKeys items h.order_keys → AreCreatedBehind items d h.item_ids h'.item_ids h.next →
    OrderKeysStay items d h.order_keys h'.order_keys → (k : Step) (e : Edit) → IsStep items k e → IsOfOthers d k → (l : Candidate) (n : ℕ) → IsCandidateOf h l n k → IsCandidateOf h' l n (renumbered (new_number d items) k)

-- What is pending goes over to the sheet after a step.
abbrev pub PendingGoesOver : Type 0
PendingGoesOver = (answers : List Answered) (source : List ℕ) (items : List Item) (j : Step) (d : Edit) (h h' : PendingState) → IsStep items j d → IsSound source items → HasRoom items →
    GoesOver source items d h h' → IsPending answers source items h → IsPending answers source (edited d items) h'

-- What is pending of a sheet changes: priorities are queued by others, or on the watch list with what blocks them.
pub record ChangesHere (answers : List Answered) (source : List ℕ) (items : List Item) (h h' : PendingState) : Type 0 where
  pub same_order_keys : h'.order_keys ≡ h.order_keys
  pub same_item_ids : h'.item_ids ≡ h.item_ids
  pub same_next : h'.next ≡ h.next
  pub pending : (k : Step) (e : Edit) (n : ℕ) → IsStep items k e → Saves source items e n → 0 < n → IsQueued h n k ⊎ ((by : Hindrance) × IsWatched h n k by) →
      IsQueued h' n k ⊎ ((by : Hindrance) × IsWatched h' n k by)
  pub watched : (a : Watched) → Contains h'.watched a → Contains h.watched a
      ⊎ ((first_item a.priority.step < h.next) × (last_item a.priority.step < h.next)
      × ((k : Step) (e : Edit) (n : ℕ) → IsStep items k e → Saves source items e n → 0 < n → a.priority ≡ named h.item_ids n k → Hinders answers items e a.by))

-- So it is still pending, while answers come in.
abbrev pub PendingMayChange : Type 0
PendingMayChange = (answers answers' : List Answered) (source : List ℕ) (items : List Item) (h h' : PendingState) → AreAmong answers answers' →
    ChangesHere answers' source items h h' → IsPending answers source items h → IsPending answers' source items h'

-- A free step that saves, and that comes no later than any candidate, is the one to take.
abbrev pub FirstCandidateIsTaken : Type 0
FirstCandidateIsTaken = (answers : List Answered) (source : List ℕ) (items : List Item) (h : PendingState) → IsPending answers source items h →
    (k : Step) (e : Edit) (n : ℕ) → IsStep items k e → IsFree answers items e → 0 < n → Saves source items e n →
    ((l : Candidate) → Contains h.candidates l → IsSooner l.priority (named h.order_keys n k) → ⊥) → Takes answers source items (edited e items)

-- Where no candidate is queued, nothing is left to do.
abbrev pub NoCandidateIsDone : Type 0
NoCandidateIsDone = (answers : List Answered) (source : List ℕ) (items : List Item) (h : PendingState) → IsPending answers source items h → h.candidates ≡ [] → IsDone answers source items
