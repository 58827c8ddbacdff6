-- What a plan by candidates always knows of its indexed sheet, and what it knows after each of its moves (own).
use Rattle.std.specs.Prelude.{◌≡◌, ◌⊎◌, ℕ, ◌<◌, ◌≤◌, List, [], ◌∷◌, ◌++◌, Some, slice_get}
use Rattle.std.specs.List.{Contains}
use Rattle.css_model.specs.Cascade.Order.{Pair}
use Rattle.css_model.specs.Sheets.Sound.{IsSound}
use Rattle.pending_laws.specs.Candidates.{Candidate, IsQueued, IsWatched, IsPending}
use Rattle.pending_laws.specs.Scopes.{Owned, IsInScope}
use Rattle.pending_laws.specs.Priorities.{named, first_priority}
use Rattle.queue_laws.specs.MarkNames.{pending_of, IsMarked}
use Rattle.queue_laws.specs.Passed.{IsBlockedHere}
use Rattle.queue_laws.specs.Remembering.{AreRemembered, AreNowRemembered, AreReactivated, HasEntryOf, pairs_of, untouched}
use Rattle.step_queue.specs.declared.watch_list.Entry.{Entry}
use Rattle.order_laws.specs.Edits.{Edit, edited}
use Rattle.indexed_sheet.specs.IndexedParts.{IndexedParts}
use Rattle.indexed_sheet.specs.MarkList.{item_ids_of, order_keys_of}
use Rattle.indexed_sheet.specs.Marking.{AreKept}
use Rattle.plan_laws.specs.Cover.{IsSooner}
use Rattle.step_laws.specs.declared.step.Step.{Step}
use Rattle.step_laws.specs.Free.{Answered, AreAmong}
use Rattle.step_laws.specs.Sizes.{size, Saves}
use Rattle.step_laws.specs.Steps.{IsStep}
use Rattle.plan_laws.specs.Barrier.Hindering.{Hindrance, Hinders, HasRoom, Watched}

-- Each step of the indexed sheet that saves is queued or on the watch list, and what is on the watch list is remembered.
pub record IsKnown (answers : List Answered) (source : List ℕ) (b : IndexedParts) (candidates : List Candidate) (watched : List Watched) (entries : List Entry) : Type 0 where
  pub pending : IsPending answers source b.items (pending_of b candidates watched)
  pub remembered : AreRemembered source b.items (pending_of b candidates watched) entries

-- So it is where a priority before all steps is queued for each item, and nothing is on the watch list.
abbrev pub StartIsKnown : Type 0
StartIsKnown = (answers : List Answered) (source : List ℕ) (b : IndexedParts) (candidates : List Candidate) (bound : ℕ) → IsMarked b → size source b.items ≤ bound →
    ((n item_id : ℕ) → slice_get (item_ids_of b.marks) n ≡ Some item_id → Contains candidates (record { priority = first_priority bound; owner = item_id; scope = Owned })) →
    IsKnown answers source b candidates [] []

-- So it is while answers come in.
abbrev pub AnswersMayCome : Type 0
AnswersMayCome = (answers answers' : List Answered) (source : List ℕ) (b : IndexedParts) (candidates : List Candidate) (watched : List Watched) (entries : List Entry) → AreAmong answers answers' →
    IsKnown answers source b candidates watched entries → IsKnown answers' source b candidates watched entries

-- a step is queued or on the watch list
abbrev pub IsQueuedOrWatched : IndexedParts → List Candidate → List Watched → ℕ → Step → Type 0
IsQueuedOrWatched b candidates watched n k = IsQueued (pending_of b candidates watched) n k ⊎ ((by : Hindrance) × IsWatched (pending_of b candidates watched) n k by)

-- A candidate goes. The others stay, and the later steps in its scope are queued or on the watch list.
pub record IsFollowed (source : List ℕ) (b : IndexedParts) (candidates candidates' : List Candidate) (watched : List Watched) (l : Candidate) : Type 0 where
  pub others : (other : Candidate) → Contains candidates other → (l ≡ other) ⊎ Contains candidates' other
  pub later : (k : Step) (e : Edit) (n : ℕ) → IsStep b.items k e → Saves source b.items e n → 0 < n →
      IsInScope (item_ids_of b.marks) l.scope l.owner k → IsSooner l.priority (named (order_keys_of b.marks) n k) → IsQueuedOrWatched b candidates' watched n k

-- So it is where a priority is passed that no step has,
abbrev pub NoneIsKnown : Type 0
NoneIsKnown = (answers : List Answered) (source : List ℕ) (b : IndexedParts) (candidates candidates' : List Candidate) (watched : List Watched) (entries : List Entry) (l : Candidate) → IsFollowed source b candidates candidates' watched l →
    ((k : Step) (e : Edit) (n : ℕ) → IsStep b.items k e → Saves source b.items e n → 0 < n → l.priority ≡ named (order_keys_of b.marks) n k → ⊥) →
    IsKnown answers source b candidates watched entries → IsKnown answers source b candidates' watched entries

-- and where the step that has it is on the watch list with what blocks it, and remembered under each pair of that.
abbrev pub BlockedIsKnown : Type 0
BlockedIsKnown = (answers : List Answered) (source : List ℕ) (b : IndexedParts) (candidates candidates' : List Candidate) (watched : List Watched) (entries entries' : List Entry) (l : Candidate) →
    (k : Step) (e : Edit) (n : ℕ) (by : Hindrance) → IsFollowed source b candidates candidates' (record { priority = named (item_ids_of b.marks) n k; by = by } ∷ watched) l → IsStep b.items k e → Saves source b.items e n → 0 < n → l.priority ≡ named (order_keys_of b.marks) n k → Hinders answers b.items e by →
    ((x : Entry) → Contains entries x → Contains entries' x) → ((p : Pair) → Contains (pairs_of by) p → HasEntryOf entries' p l.priority) →
    IsKnown answers source b candidates watched entries → IsKnown answers source b candidates' (record { priority = named (item_ids_of b.marks) n k; by = by } ∷ watched) entries'

-- And where priorities are on the watch list whose steps are blocked and remembered, and the steps that have the priority are among what
-- is on the watch list.
abbrev pub MoreIsKnown : Type 0
MoreIsKnown = (answers : List Answered) (source : List ℕ) (b : IndexedParts) (candidates candidates' : List Candidate) (more watched : List Watched) (entries entries' : List Entry) (l : Candidate) →
    IsFollowed source b candidates candidates' (more ++ watched) l →
    ((k : Step) (e : Edit) (n : ℕ) → IsStep b.items k e → Saves source b.items e n → 0 < n → l.priority ≡ named (order_keys_of b.marks) n k →
    (by : Hindrance) × IsWatched (pending_of b candidates' (more ++ watched)) n k by) →
    ((a : Watched) → Contains more a → IsBlockedHere answers source b.items (pending_of b candidates watched) a) → AreNowRemembered source b.items (pending_of b candidates watched) more entries' →
    ((x : Entry) → Contains entries x → Contains entries' x) →
    IsKnown answers source b candidates watched entries → IsKnown answers source b candidates' (more ++ watched) entries'

-- And where priorities are on the watch list whose steps are blocked and remembered, while the same candidates are queued.
abbrev pub WatchedIsKnown : Type 0
WatchedIsKnown = (answers : List Answered) (source : List ℕ) (b : IndexedParts) (candidates : List Candidate) (more watched : List Watched) (entries : List Entry) →
    ((a : Watched) → Contains more a → IsBlockedHere answers source b.items (pending_of b candidates watched) a) → AreNowRemembered source b.items (pending_of b candidates watched) more entries →
    IsKnown answers source b candidates watched entries → IsKnown answers source b candidates (more ++ watched) entries

-- An indexed sheet becomes another one after an edit. All candidates stay queued, one before all steps is queued for each item that
-- is created now, and those under moved pairs are queued again. No entry is taken out.
pub record IsTaken (b b' : IndexedParts) (d : Edit) (bound : ℕ) (candidates candidates' : List Candidate) (entries entries' : List Entry) : Type 0 where
  pub items : b'.items ≡ edited d b.items
  pub marked : IsMarked b'
  pub kept : AreKept b b' d
  pub later : b.next ≤ b'.next
  pub queued : (l : Candidate) → Contains candidates l → Contains candidates' l
  pub new : (m item_id : ℕ) → slice_get (item_ids_of b'.marks) m ≡ Some item_id → b.next ≤ item_id → Contains candidates' (record { priority = first_priority bound; owner = item_id; scope = Owned })
  pub reactivated : AreReactivated d entries candidates'
  pub more : (x : Entry) → Contains entries x → Contains entries' x

-- So it is after a step, too, where what it does not touch stays on the watch list.
abbrev pub TakenIsKnown : Type 0
TakenIsKnown = (answers : List Answered) (source : List ℕ) (b b' : IndexedParts) (j : Step) (d : Edit) (bound saved : ℕ) (candidates candidates' : List Candidate) (watched : List Watched) (entries entries' : List Entry) →
    IsMarked b → IsStep b.items j d → IsSound source b.items → HasRoom b.items → size source b.items ≤ bound → Saves source b.items d saved →
    IsTaken b b' d bound candidates candidates' entries entries' →
    IsKnown answers source b candidates watched entries → IsKnown answers source b' candidates' (untouched d watched) entries'
