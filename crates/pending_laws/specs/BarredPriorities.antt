-- The priorities of all steps that a barrier hinders, to be on the watch list at once.
use Rattle.std.specs.Prelude.{◌≡◌, ℕ, zero, suc, ◌+◌, ◌-◌, ◌<◌, ◌≤◌, true, List, [], ◌∷◌, length, map, slice_index}
use Rattle.std.specs.List.{Contains, flat_map}
use Rattle.css_model.specs.declared.sheet.Decl.{Decl}
use Rattle.css_model.specs.declared.sheet.Item.{Item}
use Rattle.css_model.specs.Cascade.Order.{Pair}
use Rattle.order_laws.specs.Edits.{Edit}
use Rattle.step_laws.specs.declared.step.Step.{Step}
use Rattle.step_laws.specs.Free.{Answered, AreNotApart}
use Rattle.step_laws.specs.Sizes.{Saves}
use Rattle.step_laws.specs.Steps.{IsStep, first_item, last_item}
use Rattle.plan_laws.specs.Barrier.Hindering.{Hindrance, OfPair, Hinders, Watched}
use Rattle.pending_laws.specs.ItemIds.{AreItemIds}
use Rattle.pending_laws.specs.declared.way.Way.{Way}
use Rattle.pending_laws.specs.declared.way.Way.TheVariants.{Up, Down}
use Rattle.pending_laws.specs.Priorities.{named}
use Rattle.pending_laws.specs.Barred.{IsBarredBy}
use Rattle.pending_laws.specs.Ways.{mover, moves_decl, moves_to, partner, IsPast, MovesPairs}

-- so many numbers from one on
abbrev pub numbers_from : (first count : ℕ) → List ℕ
numbers_from first zero = []
numbers_from first (suc n) = (first + n) ∷ numbers_from first n

-- of the numbers below a count those past one
abbrev pub numbers_past : Way → (place count : ℕ) → List ℕ
numbers_past Up place count = numbers_from 0 place
numbers_past Down place count = numbers_from (suc place) (count - suc place)

-- Steps that would save so much, put on the watch list by item ids. Whether they are steps of a sheet is not asked.
abbrev pub watched_is : List ℕ → Hindrance → ℕ → Step → Watched
watched_is item_ids by n k = record { priority = named item_ids n k; by = by }

abbrev pub watched_as : List ℕ → Hindrance → List Step → ℕ → List Watched
watched_as item_ids by steps n = map (watched_is item_ids by n) steps

-- Of the item of number `m` those that move a declaration past an item, and that save no more than so much.
abbrev pub barred_priorities : List Item → List ℕ → Hindrance → Decl → Way → (m place most : ℕ) → List Watched
barred_priorities items item_ids by d way m place most =
    flat_map (λ o. flat_map (watched_as item_ids by (moves_to items d way m o)) (numbers_from 0 (suc most))) (numbers_past way place (length items))

-- If there is a barrier, they may be on the watch list: they are of items that were created, and what has such a priority is hindered.
abbrev pub BarredPrioritiesAreBlocked : Type 0
BarredPrioritiesAreBlocked = (answers : List Answered) (source : List ℕ) (items : List Item) (item_ids : List ℕ) (next : ℕ) (way : Way) (m place : ℕ) (p q : Pair) (most : ℕ) →
    AreItemIds items item_ids next → IsBarredBy way items m place p q → AreNotApart answers p.selector q.selector →
    (a : Watched) → Contains (barred_priorities items item_ids (OfPair p q) p.decl way m place most) a →
    (first_item a.priority.step < next) × (last_item a.priority.step < next)
    × ((k : Step) (e : Edit) (n : ℕ) → IsStep items k e → Saves source items e n → 0 < n → a.priority ≡ named item_ids n k → Hinders answers items e a.by)

-- Each such step is among them.
abbrev pub MovesAreBarred : Type 0
MovesAreBarred = (items : List Item) (item_ids : List ℕ) (by : Hindrance) (d : Decl) (way : Way) (m place most : ℕ) (k : Step) (n : ℕ) → MovesPairs way k → moves_decl items k d ≡ true →
    mover way k ≡ m → partner way k < length items → IsPast way place (partner way k) → n ≤ most →
    Contains (barred_priorities items item_ids by d way m place most) (record { priority = named item_ids n k; by = by })

-- What has one of these priorities moves pairs of the item in that way, and it is on the watch list with what hinders them.
abbrev pub BarredPrioritiesAreMoves : Type 0
BarredPrioritiesAreMoves = (items : List Item) (item_ids : List ℕ) (by : Hindrance) (d : Decl) (way : Way) (m place most : ℕ) (a : Watched) → Contains (barred_priorities items item_ids by d way m place most) a →
    (by ≡ a.by) × ((k : Step) (n : ℕ) → a.priority ≡ named item_ids n k → MovesPairs way k × (slice_index item_ids m ≡ slice_index item_ids (mover way k)))
