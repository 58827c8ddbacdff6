-- How code remembers what is on the watch list: by digests of the pairs that block a step (own).
use Rattle.std.specs.Prelude.{◌≡◌, ◌⊎◌, ◌↔◌, ℕ, ◌<◌, Bool, true, not, List, [], ◌∷◌, ◌++◌}
use Rattle.std.specs.List.{Contains, filter, list_any}
use Rattle.css_model.specs.Cascade.Order.{Pair}
use Rattle.css_model.specs.declared.sheet.Item.{Item}
use Rattle.css_model.specs.Sheets.Sound.{IsSound}
use Rattle.pending_laws.specs.Behind.{GoesOn}
use Rattle.pending_laws.specs.Candidates as pending
use Rattle.pending_laws.specs.Candidates.{PendingState, IsCandidateOf, IsQueued, IsPending}
use Rattle.pending_laws.specs.Priorities.{named}
use Rattle.queue_laws.specs.Reindexed.{AreRenamed}
use Rattle.step_queue.specs.WatchLists.{entry, candidates_under}
use Rattle.step_queue.specs.declared.watch_list.Entry.{Entry}
use Rattle.step_queue.specs.declared.candidate.Candidate.{Candidate}
use Rattle.step_queue.specs.Told.{candidate_told}
use Rattle.order_laws.specs.Edits.{is_moved, Edit, edited}
use Rattle.plan_laws.specs.Cover.{Priority}
use Rattle.rule_tables.specs.Digests.{selector_digest, decl_digest}
use Rattle.step_laws.specs.declared.step.Step.{Step}
use Rattle.step_laws.specs.Free.{Answered}
use Rattle.step_laws.specs.Sizes.{Saves}
use Rattle.step_laws.specs.Steps.{IsStep}
use Rattle.plan_laws.specs.Barrier.Hindering.{Hindrance, OfPair, OfKept, HasRoom, IsUntouched, Watched}
use Rattle.plan_laws.specs.Barrier.Renumbering.{new_number, renumbered}

-- a candidate that is on the watch list under the digests of a pair
abbrev pub entry_of : Pair → Candidate → Entry
entry_of p c = entry (selector_digest p.selector) (decl_digest p.decl) c

-- the pairs of what blocks a step
abbrev pub pairs_of : Hindrance → List Pair
pairs_of (OfPair p q) = p ∷ q ∷ []
pairs_of (OfKept p number) = p ∷ []

-- under a pair there is an entry whose candidate has this priority
abbrev pub HasEntryOf : List Entry → Pair → Priority → Type 0
HasEntryOf entries p t = (c : Candidate) × ((candidate_told c).priority ≡ t) × Contains entries (entry_of p c)

-- under a pair there is an entry whose candidate stands for a step, if it is queued again
abbrev pub IsRemembered : PendingState → List Entry → Pair → ℕ → Step → Type 0
IsRemembered h entries p n k = (c : Candidate) × IsCandidateOf h (candidate_told c) n k × Contains entries (entry_of p c)

-- each step that is on the watch list is remembered under each pair of what blocks it
abbrev pub AreRemembered : List ℕ → List Item → PendingState → List Entry → Type 0
AreRemembered source items h entries = (a : Watched) → Contains h.watched a → (k : Step) (e : Edit) (n : ℕ) → IsStep items k e → Saves source items e n → 0 < n →
    a.priority ≡ named h.item_ids n k → (p : Pair) → Contains (pairs_of a.by) p → IsRemembered h entries p n k

-- An entry under digests is found there.
abbrev pub EntriesAreFound : Type 0
EntriesAreFound = (entries : List Entry) (selector decl : ℕ) (c : Candidate) → Contains entries (entry selector decl c) → Contains (candidates_under selector decl entries) c

-- ---- One more

-- One more priority is on the watch list, and its step is remembered.
abbrev pub OneMoreIsRemembered : Type 0
OneMoreIsRemembered = (answers : List Answered) (source : List ℕ) (items : List Item) (h h' : PendingState) (entries entries' : List Entry) → IsPending answers source items h →
    h'.order_keys ≡ h.order_keys → h'.item_ids ≡ h.item_ids → (k : Step) (e : Edit) (n : ℕ) (by : Hindrance) → IsStep items k e → Saves source items e n → 0 < n →
    h'.watched ≡ record { priority = named h.item_ids n k; by = by } ∷ h.watched →
    ((x : Entry) → Contains entries x → Contains entries' x) → ((p : Pair) → Contains (pairs_of by) p → HasEntryOf entries' p (named h.order_keys n k)) →
    AreRemembered source items h entries → AreRemembered source items h' entries'

-- ---- Many more

-- Of priorities that are on the watch list each step is remembered.
abbrev pub AreNowRemembered : List ℕ → List Item → PendingState → List Watched → List Entry → Type 0
AreNowRemembered source items h more entries = (a : Watched) → Contains more a → (k : Step) (e : Edit) (n : ℕ) → IsStep items k e → Saves source items e n → 0 < n →
    a.priority ≡ named h.item_ids n k → (p : Pair) → Contains (pairs_of a.by) p → IsRemembered h entries p n k

-- So each is where they are on the watch list beside what was.
abbrev pub MoreAreRemembered : Type 0
MoreAreRemembered = (source : List ℕ) (items : List Item) (h h' : PendingState) (more : List Watched) (entries entries' : List Entry) → h'.order_keys ≡ h.order_keys → h'.item_ids ≡ h.item_ids →
    h'.watched ≡ more ++ h.watched → ((x : Entry) → Contains entries x → Contains entries' x) → AreNowRemembered source items h more entries' →
    AreRemembered source items h entries → AreRemembered source items h' entries'

-- ---- After a step

-- whether an edit moves none of the pairs of what blocks a step
abbrev pub is_untouched : Edit → Hindrance → Bool
is_untouched d by = not (list_any (λ p. is_moved d.moved p) (pairs_of by))

-- what an edit does not touch of what is on the watch list
abbrev pub untouched : Edit → List Watched → List Watched
untouched d watched = filter (λ a. is_untouched d a.by) watched

-- It is what it has to be.
abbrev pub UntouchedIsKept : Type 0
UntouchedIsKept = (d : Edit) (watched : List Watched) (a : Watched) → Contains (untouched d watched) a ↔ (Contains watched a × IsUntouched d a.by)

-- for each entry under a pair that an edit moves, its candidate is queued
abbrev pub AreReactivated : Edit → List Entry → List pending.Candidate → Type 0
AreReactivated d entries candidates = (p : Pair) (c : Candidate) → is_moved d.moved p ≡ true → Contains entries (entry_of p c) → Contains candidates (candidate_told c)

-- Of what was on the watch list each priority is untouched, or its step is queued again.
abbrev pub RememberedIsReactivated : Type 0
RememberedIsReactivated = (answers : List Answered) (source : List ℕ) (items : List Item) (d : Edit) (h h' : PendingState) (entries : List Entry) →
    IsPending answers source items h → AreRenamed items d h h' → AreRemembered source items h entries → AreReactivated d entries h'.candidates →
    (a : Watched) → Contains h.watched a → Contains (untouched d h.watched) a
    ⊎ ((k : Step) (e : Edit) (n : ℕ) → GoesOn items d k e → Saves source items e n → 0 < n → a.priority ≡ named h.item_ids n k →
    IsQueued h' n (renumbered (new_number d items) k))

-- What stays on the watch list after a step is remembered, where no entry is taken out.
abbrev pub RememberedGoesOver : Type 0
RememberedGoesOver = (answers : List Answered) (source : List ℕ) (items : List Item) (j : Step) (d : Edit) (h h' : PendingState) (entries entries' : List Entry) →
    IsStep items j d → IsSound source items → HasRoom items → IsPending answers source items h → AreRenamed items d h h' →
    ((a : Watched) → Contains h'.watched a → Contains h.watched a) → ((x : Entry) → Contains entries x → Contains entries' x) →
    AreRemembered source items h entries → AreRemembered source (edited d items) h' entries'
