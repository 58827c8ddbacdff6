-- Barriers of an indexed sheet: what hinders each join of an item past a place, up or down, and shares, and is remembered (own).
use Rattle.std.specs.Prelude.{◌≡◌, ◌≢◌, ◌⊎◌, ℕ, ◌<◌, ◌≤◌, Bool, true, false, List, Option, Some, None, length, slice_get, slice_index}
use Rattle.std.specs.List.{Contains}
use Rattle.css_model.specs.Cascade.Order.{Pair}
use Rattle.css_model.specs.declared.sheet.Decl.{Decl}
use Rattle.css_model.specs.declared.sheet.Item.{Item}
use Rattle.css_model.specs.declared.sheet.Item.TheVariants.{Rule}
use Rattle.pending_laws.specs.declared.way.Way.{Way}
use Rattle.pending_laws.specs.Candidates as pending
use Rattle.pending_laws.specs.Priorities.{named, first_priority}
use Rattle.pending_laws.specs.Barred.{IsBarredBy}
use Rattle.pending_laws.specs.Ways.{is_rule_with, mover, partner, scope_of, IsPast, MovesPairs}
use Rattle.queue_laws.specs.MarkNames.{pending_of, IsMarked}
use Rattle.queue_laws.specs.Passed.{IsBlockedHere}
use Rattle.queue_laws.specs.Remembering.{entry_of, AreNowRemembered, AreReactivated}
use Rattle.step_queue.specs.declared.barriers.Barrier.{Barrier}
use Rattle.step_queue.specs.declared.watch_list.Entry.{Entry}
use Rattle.step_queue.specs.declared.candidate.Candidate.{Candidate}
use Rattle.step_queue.specs.Told.{candidate_told}
use Rattle.step_queue.specs.BarrierParts.{barriers_on, BarrierParts}
use Rattle.order_laws.specs.Edits.{Edit, edited}
use Rattle.indexed_sheet.specs.IndexedParts.{IndexedParts}
use Rattle.indexed_sheet.specs.MarkList.{item_ids_of, order_keys_of}
use Rattle.indexed_sheet.specs.Marking.{AreKept}
use Rattle.step_laws.specs.declared.step.Step.{Step}
use Rattle.step_laws.specs.declared.step.Step.TheVariants.{Share}
use Rattle.step_laws.specs.Free.{Answered, AreAmong, AreNotApart}
use Rattle.step_laws.specs.Sizes.{size, Saves}
use Rattle.step_laws.specs.Steps.{IsStep, decls_of, first_item, last_item}
use Rattle.plan_laws.specs.Barrier.Hindering.{Hindrance, Watched}

-- the declaration of this number of an item that is a rule
abbrev pub decl_of_number : Option Item → ℕ → Option Decl
decl_of_number (Some (Rule r)) i = slice_get (decls_of r) i
decl_of_number _ i = None

-- the candidate of all steps in which pairs of the item of an item id move in a way
abbrev pub moves_candidate : Way → (bound item_id : ℕ) → pending.Candidate
moves_candidate way bound item_id = record { priority = first_priority bound; owner = item_id; scope = scope_of way }

-- under a pair there is an entry of that candidate
abbrev pub HasMovesEntry : List Entry → Pair → Way → (bound item_id : ℕ) → Type 0
HasMovesEntry entries p way bound item_id = (c : Candidate) × (candidate_told c ≡ moves_candidate way bound item_id) × Contains entries (entry_of p c)

-- A pair of the item of an item id, with the declaration that a barrier tells, cannot move in a way past the item of its order key, and
-- the selectors of what hinders it may meet. Under both of these pairs there is an entry of the candidate of all such steps of the item.
pub record HasBarrier (answers : List Answered) (b : IndexedParts) (entries : List Entry) (bound : ℕ) (way : Way) (item_id : ℕ) (stop : Barrier) : Type 0 where
  pub m : ℕ
  pub place : ℕ
  pub p : Pair
  pub q : Pair
  pub barrier : IsBarredBy way b.items m place p q
  pub apart : AreNotApart answers p.selector q.selector
  pub created : slice_get (item_ids_of b.marks) m ≡ Some item_id
  pub at : slice_get (order_keys_of b.marks) place ≡ Some stop.order_key
  pub decl : decl_of_number (slice_get b.items m) stop.decl ≡ Some p.decl
  pub under_moved : HasMovesEntry entries p way bound item_id
  pub under_other : HasMovesEntry entries q way bound item_id

-- no item has this item id
abbrev pub IsGone : IndexedParts → ℕ → Type 0
IsGone b item_id = (n : ℕ) → slice_get (item_ids_of b.marks) n ≡ Some item_id → ⊥

-- an item has such a barrier, or all these steps of it are queued, or it is gone
abbrev pub IsStanding : List Answered → IndexedParts → List Entry → ℕ → List pending.Candidate → Way → ℕ → Barrier → Type 0
IsStanding answers b entries bound candidates way item_id stop = HasBarrier answers b entries bound way item_id stop ⊎ (Contains candidates (moves_candidate way bound item_id) ⊎ IsGone b item_id)

-- Under each item id is a barrier; if there is none, its order key is 0.
pub record AreBarriers (answers : List Answered) (b : IndexedParts) (entries : List Entry) (bound : ℕ) (candidates : List pending.Candidate) (barriers : BarrierParts) : Type 0 where
  pub past : (way : Way) → length (barriers_on way barriers) ≤ b.next
  pub each : (way : Way) (item_id : ℕ) (stop : Barrier) → slice_get (barriers_on way barriers) item_id ≡ Some stop → 0 < stop.order_key → IsStanding answers b entries bound candidates way item_id stop

-- ---- After a step

-- After a step those barriers that are left, none of them at an item of the step, are barriers, if the candidates
-- stay, and those under moved pairs are queued again.
abbrev pub BarriersGoOver : Type 0
BarriersGoOver = (answers : List Answered) (b b' : IndexedParts) (j : Step) (d : Edit) (entries : List Entry) (bound : ℕ) (candidates candidates' : List pending.Candidate) (barriers barriers' : BarrierParts) → IsMarked b → IsStep b.items j d →
    AreKept b b' d → b'.items ≡ edited d b.items → b.next ≤ b'.next → AreReactivated d entries candidates' → ((l : pending.Candidate) → Contains candidates l → Contains candidates' l) →
    ((way : Way) → length (barriers_on way barriers') ≤ length (barriers_on way barriers)) →
    ((way : Way) (item_id : ℕ) (stop : Barrier) → slice_get (barriers_on way barriers') item_id ≡ Some stop → 0 < stop.order_key → (slice_get (barriers_on way barriers) item_id ≡ Some stop)
    × ((n : ℕ) → slice_get (order_keys_of b.marks) n ≡ Some stop.order_key → (first_item j ≢ n) × (last_item j ≢ n))) →
    AreBarriers answers b entries bound candidates barriers → AreBarriers answers b' entries bound candidates' barriers'

-- They are while answers come in, more candidates are queued and more entries are put in.
abbrev pub BarriersStay : Type 0
BarriersStay = (answers answers' : List Answered) (b : IndexedParts) (entries entries' : List Entry) (bound : ℕ) (candidates candidates' : List pending.Candidate) (barriers : BarrierParts) → AreAmong answers answers' →
    ((x : Entry) → Contains entries x → Contains entries' x) → ((way : Way) (item_id : ℕ) → Contains candidates (moves_candidate way bound item_id) → Contains candidates' (moves_candidate way bound item_id)) →
    AreBarriers answers b entries bound candidates barriers → AreBarriers answers' b entries' bound candidates' barriers

-- ---- What barriers hinder

-- the item of number `o` is past the barrier of that of number `m`
abbrev pub IsPastBarrier : IndexedParts → BarrierParts → Way → (m o : ℕ) → Type 0
IsPastBarrier b barriers way m o = (stop : Barrier) × (slice_get (barriers_on way barriers) (slice_index (item_ids_of b.marks) m) ≡ Some stop) × (0 < stop.order_key) × IsPast way stop.order_key (slice_index (order_keys_of b.marks) o)

-- whether an item is a rule with a declaration, if there is one
abbrev pub is_with : Option Item → Option Decl → Bool
is_with item (Some d) = is_rule_with item d
is_with item None = false

-- Whether a step moves the pairs of its first item with the declaration of this number: a share does if both rules have it, and a join
-- moves all pairs.
abbrev pub moves_number : List Item → Step → ℕ → Bool
moves_number items (Share x y) i = is_with (slice_get items y) (decl_of_number (slice_get items x) i)
moves_number items _ i = true

-- a step that moves, in a way, pairs of an item with the declaration that its barrier tells past this barrier
abbrev pub IsBarredOn : IndexedParts → BarrierParts → Way → Step → Type 0
IsBarredOn b barriers way k = MovesPairs way k × (past : IsPastBarrier b barriers way (mover way k) (partner way k)) × (moves_number b.items k past.0.decl ≡ true)

-- in the one way or the other
abbrev pub IsBarred : IndexedParts → BarrierParts → Step → Type 0
IsBarred b barriers k = (way : Way) × IsBarredOn b barriers way k

-- one of the candidates stands for all steps in a way of the item whose pairs move in a step
abbrev pub HasMovesCandidate : IndexedParts → ℕ → List pending.Candidate → Step → Type 0
HasMovesCandidate b bound candidates k = (way : Way) × MovesPairs way k × Contains candidates (moves_candidate way bound (slice_index (item_ids_of b.marks) (mover way k)))

-- Priorities that may be on the watch list at once. The priorities of all steps with a property are among them, but those of steps of an
-- item in a way that are all queued.
pub record MayBeWatched (answers : List Answered) (source : List ℕ) (b : IndexedParts) (entries : List Entry) (bound : ℕ) (candidates : List pending.Candidate) (Has : Step → Type 0) : Type 0 where
  pub more : List Watched
  pub blocked : (others : List pending.Candidate) (watched : List Watched) (a : Watched) → Contains more a → IsBlockedHere answers source b.items (pending_of b others watched) a
  pub remembered : (others : List pending.Candidate) (watched : List Watched) → AreNowRemembered source b.items (pending_of b others watched) more entries
  pub all : (k : Step) (e : Edit) (n : ℕ) → IsStep b.items k e → Saves source b.items e n → 0 < n → Has k →
      ((by : Hindrance) × Contains more (record { priority = named (item_ids_of b.marks) n k; by = by })) ⊎ HasMovesCandidate b bound candidates k

-- Those of the steps past barriers are such.
abbrev pub BarredMayBeWatched : Type 0
BarredMayBeWatched = (answers : List Answered) (source : List ℕ) (b : IndexedParts) (entries : List Entry) (bound : ℕ) (candidates : List pending.Candidate) (barriers : BarrierParts) → IsMarked b → size source b.items ≤ bound →
    AreBarriers answers b entries bound candidates barriers → MayBeWatched answers source b entries bound candidates (IsBarred b barriers)
