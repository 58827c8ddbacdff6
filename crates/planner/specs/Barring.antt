-- The barriers that obstacles make (own).
use Rattle.std.specs.Prelude.{◌≡◌, ◌≢◌, ◌⊎◌, ℕ, ◌+◌, ◌<◌, ◌≤◌, List, Some, length, slice_get}
use Rattle.std.specs.List.{Contains}
use Rattle.css_model.specs.Cascade.Order.{Pair}
use Rattle.css_model.specs.declared.sheet.Item.{Item}
use Rattle.css_model.specs.declared.sheet.Item.TheVariants.{Rule}
use Rattle.css_model.specs.Sheets.Limits.{max_bytes}
use Rattle.css_model.specs.Sheets.RuleParts.{RuleParts}
use Rattle.pending_laws.specs.declared.way.Way.{Way}
use Rattle.pending_laws.specs.declared.way.Way.TheVariants.{Up, Down}
use Rattle.pending_laws.specs.Barred.{IsBarredBy}
use Rattle.queue_laws.specs.IndexedBarriers.{decl_of_number, HasMovesEntry}
use Rattle.queue_laws.specs.Remembering.{pairs_of}
use Rattle.step_queue.specs.declared.barriers.Barrier.{Barrier}
use Rattle.step_queue.specs.declared.watch_list.Entry.{Entry}
use Rattle.step_queue.specs.BarrierParts.{barriers_on, BarrierParts}
use Rattle.obstacles.specs.Blocking.{IsBlockedBy, Names}
use Rattle.obstacles.specs.declared.obstacle.Obstacle.{Obstacle}
use Rattle.indexed_sheet.specs.IndexedParts.{IndexedParts}
use Rattle.indexed_sheet.specs.MarkList.{item_ids_of, order_keys_of}
use Rattle.rule_tables.specs.Pairs.{HasBoth}
use Rattle.step_laws.specs.declared.step.Step.{Step}
use Rattle.step_laws.specs.Free.{Answered, AreNotApart}
use Rattle.plan_laws.specs.Barrier.Hindering.{Hindrance, OfPair}

-- From item `z` on a pair is in item `y` alone, and from item `y` on no item has another pair.
pub record StandsAlone (items : List Item) (z y : ℕ) (p q : Pair) : Type 0 where
  pub before : z < y
  pub alone : (n : ℕ) (r : RuleParts) → slice_get items n ≡ Some (Rule r) → z ≤ n → n ≢ y → HasBoth r p.selector p.decl → ⊥
  pub other : (n : ℕ) (r : RuleParts) → slice_get items n ≡ Some (Rule r) → y ≤ n → HasBoth r q.selector q.decl → ⊥

-- so it is with the two pairs of a barrier: the moved one up, the other one down
abbrev pub StandsAloneOn : Way → List Item → (m place : ℕ) → Pair → Pair → Type 0
StandsAloneOn Up items m place p q = StandsAlone items place m p q
StandsAloneOn Down items m place p q = StandsAlone items m place q p

-- The pairs that an obstacle names make a barrier in a way for the item of an item id.
pub record MakesBarrier (answers : List Answered) (b : IndexedParts) (o : Obstacle) (way : Way) (item_id : ℕ) (stop : Barrier) : Type 0 where
  pub m : ℕ
  pub place : ℕ
  pub p : Pair
  pub q : Pair
  pub names : Names b.items o (OfPair p q)
  pub barrier : IsBarredBy way b.items m place p q
  pub apart : AreNotApart answers p.selector q.selector
  pub created : slice_get (item_ids_of b.marks) m ≡ Some item_id
  pub at : slice_get (order_keys_of b.marks) place ≡ Some stop.order_key
  pub decl : decl_of_number (slice_get b.items m) stop.decl ≡ Some p.decl

-- it does by all answers by which a step is blocked so
abbrev pub MakesBarrierFor : IndexedParts → Step → Obstacle → Way → ℕ → Barrier → Type 0
MakesBarrierFor b k o way item_id stop = (answers : List Answered) → IsBlockedBy answers b.items k o → MakesBarrier answers b o way item_id stop

-- A barrier is put under an item id, instead of what was there, or nothing is.
pub record IsRaised (old new : List Barrier) (item_id : ℕ) (stop : Barrier) : Type 0 where
  pub long : (next : ℕ) → length old ≤ next → item_id < next → length new ≤ next
  pub each : (b : ℕ) (l : Barrier) → slice_get new b ≡ Some l → 0 < l.order_key → (slice_get old b ≡ Some l) ⊎ ((b ≡ item_id) × (l ≡ stop))

-- it is among the barriers in a way, and the others stay
abbrev pub IsSet : BarrierParts → BarrierParts → Way → ℕ → Barrier → Type 0
IsSet old new way item_id stop = (v : Way) → ((v ≡ way) × IsRaised (barriers_on v old) (barriers_on v new) item_id stop) ⊎ (barriers_on v new ≡ barriers_on v old)

-- Under each pair of what an obstacle names there is an entry of the candidate of all steps in a way of the item of an item id.
abbrev pub HasMovesEntries : List Item → List Entry → Obstacle → Way → (item_id : ℕ) → Type 0
HasMovesEntries items entries o way item_id = (by : Hindrance) → Names items o by → (p : Pair) → Contains (pairs_of by) p → HasMovesEntry entries p way (max_bytes + 1) item_id
