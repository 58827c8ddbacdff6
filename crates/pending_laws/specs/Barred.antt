-- What barriers hinder, and barriers and lower barriers after a step: they stay while no step moves one of their pairs.
use Rattle.std.specs.Prelude.{◌≡◌, ℕ, suc, ◌+◌, ◌<◌, false, true, List, ◌++◌, length, take}
use Rattle.std.specs.List.{Contains}
use Rattle.css_model.specs.declared.sheet.Item.{Item}
use Rattle.css_model.specs.Cascade.Order.{Pair}
use Rattle.css_model.specs.Sheets.RuleParts.{RuleParts}
use Rattle.css_model.specs.Sheets.StyleRule.{selectors_of}
use Rattle.order_laws.specs.Edits.{is_moved, slots_from, Edit, edited}
use Rattle.order_laws.specs.Slots.{new_items}
use Rattle.step_laws.specs.declared.step.Step.{Step}
use Rattle.step_laws.specs.declared.step.Step.TheVariants.{Share}
use Rattle.step_laws.specs.Free.{Answered, AreNotApart}
use Rattle.step_laws.specs.Steps.{IsStep, first_item, last_item, decls_of}
use Rattle.plan_laws.specs.Barrier.Hindering.{OfPair, Hinders}
use Rattle.plan_laws.specs.Barrier.Renumbering.{Leaves, new_number}
use Rattle.plan_laws.specs.Barrier.Barriers.{IsBarrier, IsLowerBarrier}
use Rattle.pending_laws.specs.declared.way.Way.{Way}
use Rattle.pending_laws.specs.declared.way.Way.TheVariants.{Up, Down}
use Rattle.pending_laws.specs.Scopes.{IsDown, IsUp}
use Rattle.pending_laws.specs.Ways.{mover, moves_decl, partner, IsPast, MovesPairs}

-- Of a sheet in two parts what becomes of the upper one after an edit, and of the first ones of the lower one.
abbrev pub above_behind : Edit → List Item → List Item
above_behind d above = new_items (slots_from 0 d.changes above)

abbrev pub below_behind : Edit → List Item → List Item → List Item
below_behind d above below = new_items (slots_from (length above) d.changes below)

-- The sheet after the edit is in two parts, too, and an item of the lower one has its new number there.
abbrev pub PartsStay : Type 0
PartsStay = (d : Edit) (above below : List Item) → (edited d (above ++ below) ≡ above_behind d above ++ below_behind d above below)
    × ((y : ℕ) → new_number d (above ++ below) (length above + y) ≡ length (above_behind d above) + length (below_behind d above (take y below)))

-- A barrier is one after a step that leaves its rule and moves none of its two pairs.
abbrev pub BarriersGoOn : Type 0
BarriersGoOn = (above below : List Item) (j : Step) (d : Edit) → IsStep (above ++ below) j d → (y : ℕ) (lower : RuleParts) (p q : Pair) → Leaves d (length above + y) →
    is_moved d.moved p ≡ false → is_moved d.moved q ≡ false → IsBarrier above below y lower p q →
    IsBarrier (above_behind d above) (below_behind d above below) (length (below_behind d above (take y below))) lower p q

-- A lower barrier is one after a step that leaves its rule and moves none of its two pairs.
abbrev pub LowerBarriersGoOn : Type 0
LowerBarriersGoOn = (above below : List Item) (j : Step) (d : Edit) → IsStep (above ++ below) j d → (x : ℕ) (upper : RuleParts) (p q : Pair) → Leaves d x →
    is_moved d.moved p ≡ false → is_moved d.moved q ≡ false → IsLowerBarrier above below x upper p q →
    IsLowerBarrier (above_behind d above) (below_behind d above below) (length (above_behind d (take x above))) upper p q

-- What a barrier of selectors that may meet hinders: each join up of its rule into one above it.
abbrev pub BarredJoinsAreHindered : Type 0
BarredJoinsAreHindered = (answers : List Answered) (above below : List Item) (y : ℕ) (lower : RuleParts) (p q : Pair) → IsBarrier above below y lower p q → AreNotApart answers p.selector q.selector →
    (k : Step) (e : Edit) → IsStep (above ++ below) k e → IsUp k → first_item k < length above → last_item k ≡ length above + y → Hinders answers (above ++ below) e (OfPair p q)

-- What a lower barrier hinders, where its rule lacks the other pair: each join down of the rule into one below it.
abbrev pub LowerBarredJoinsAreHindered : Type 0
LowerBarredJoinsAreHindered = (answers : List Answered) (above below : List Item) (x : ℕ) (upper : RuleParts) (p q : Pair) → IsLowerBarrier above below x upper p q → AreNotApart answers p.selector q.selector →
    (Contains (selectors_of upper) q.selector → Contains (decls_of upper) q.decl → ⊥) →
    (k : Step) (e : Edit) (y : ℕ) → IsStep (above ++ below) k e → IsDown k → first_item k ≡ x → last_item k ≡ length above + y → Hinders answers (above ++ below) e (OfPair p q)

-- And each share of it with one below that moves the declaration of the barrier.
abbrev pub LowerBarredSharesAreHindered : Type 0
LowerBarredSharesAreHindered = (answers : List Answered) (above below : List Item) (x : ℕ) (upper : RuleParts) (p q : Pair) → IsLowerBarrier above below x upper p q → AreNotApart answers p.selector q.selector →
    (Contains (selectors_of upper) q.selector → Contains (decls_of upper) q.decl → ⊥) →
    (e : Edit) (y : ℕ) → IsStep (above ++ below) (Share x (length above + y)) e → moves_decl (above ++ below) (Share x (length above + y)) p.decl ≡ true → Hinders answers (above ++ below) e (OfPair p q)

-- ---- By the numbers of items

-- An item cannot move up past another one: from that on there is a barrier.
pub record HasBarrierAbove (items : List Item) (m place : ℕ) (p q : Pair) : Type 0 where
  pub above : List Item
  pub below : List Item
  pub y : ℕ
  pub lower : RuleParts
  pub parts : items ≡ above ++ below
  pub place_is : place ≡ length above
  pub mover_is : m ≡ length above + y
  pub barrier : IsBarrier above below y lower p q

-- An item cannot move down past another one: down to that there is a lower barrier, and the item lacks the other pair.
pub record HasBarrierBelow (items : List Item) (m place : ℕ) (p q : Pair) : Type 0 where
  pub above : List Item
  pub below : List Item
  pub upper : RuleParts
  pub parts : items ≡ above ++ below
  pub place_is : suc place ≡ length above
  pub lower_barrier : IsLowerBarrier above below m upper p q
  pub lacks : Contains (selectors_of upper) q.selector → Contains (decls_of upper) q.decl → ⊥

-- the one or the other
abbrev pub IsBarredBy : Way → List Item → (m place : ℕ) → Pair → Pair → Type 0
IsBarredBy Up items m place p q = HasBarrierAbove items m place p q
IsBarredBy Down items m place p q = HasBarrierBelow items m place p q

-- It is so after a step that leaves both items and moves none of the two pairs.
abbrev pub BarredItemsGoOn : Type 0
BarredItemsGoOn = (way : Way) (items : List Item) (j : Step) (d : Edit) → IsStep items j d → (m place : ℕ) (p q : Pair) → Leaves d m → Leaves d place →
    is_moved d.moved p ≡ false → is_moved d.moved q ≡ false → IsBarredBy way items m place p q →
    IsBarredBy way (edited d items) (new_number d items m) (new_number d items place) p q

-- Where the selectors may meet, each step is hindered that moves the declaration past the other item.
abbrev pub BarredMovesAreHindered : Type 0
BarredMovesAreHindered = (answers : List Answered) (way : Way) (items : List Item) (m place : ℕ) (p q : Pair) → IsBarredBy way items m place p q → AreNotApart answers p.selector q.selector →
    (k : Step) (e : Edit) → IsStep items k e → MovesPairs way k → moves_decl items k p.decl ≡ true → mover way k ≡ m → IsPast way place (partner way k) → Hinders answers items e (OfPair p q)
