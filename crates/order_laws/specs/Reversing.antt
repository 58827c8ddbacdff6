-- Which pairs and kept items change their order with what an edit moves.
use Rattle.std.specs.Prelude.{◌≡◌, ◌⊎◌, ◌↔◌, ℕ, true, false, List, Some, slice_get}
use Rattle.css_model.specs.declared.sheet.Item.{Item}
use Rattle.css_model.specs.Cascade.Order.{Meet, Pair, HasPair, Weigh, WeighsKept, IsBefore, IsBeforeKept, Keeps}
use Rattle.css_model.specs.Sheets.KeptItems.{kept_items}
use Rattle.order_laws.specs.Edits.{Moved, is_moved, Edit, edited, IsRearrangement}

-- one of two facts holds and the other does not
abbrev pub Differ : Type 0 → Type 0 → Type 0
Differ P Q = (P × (Q → ⊥)) ⊎ ((P → ⊥) × Q)

-- A moved pair and another one that weighs with it are reversed: the one comes last before the other in
-- one of two sheets alone.
pub record ReversesPair (items items' : List Item) (m : Moved) (p q : Pair) : Type 0 where
  pub moved : is_moved m p ≡ true
  pub there : HasPair items q
  pub weigh : Weigh p q
  pub order : Differ (IsBefore items p q) (IsBefore items' p q)

-- A moved pair and a kept item that weighs with it, by its number among the kept items, are reversed.
pub record ReversesKept (items items' : List Item) (m : Moved) (p : Pair) (number : ℕ) : Type 0 where
  pub item : Item
  pub moved : is_moved m p ≡ true
  pub item_at : slice_get (kept_items items) number ≡ Some item
  pub weighs : WeighsKept p item
  pub order : Differ (IsBeforeKept items p number) (IsBeforeKept items' p number)

-- What a rearrangement does not move keeps its order: two pairs, a pair and a kept item, and the kept items.
abbrev pub UnmovedKeepTheirOrder : Type 0
UnmovedKeepTheirOrder = (items : List Item) (e : Edit) → IsRearrangement items e →
    ((p q : Pair) → is_moved e.moved p ≡ false → is_moved e.moved q ≡ false →
    IsBefore items p q ↔ IsBefore (edited e items) p q)
    × ((p : Pair) (number : ℕ) → is_moved e.moved p ≡ false →
    IsBeforeKept items p number ↔ IsBeforeKept (edited e items) p number)
    × (kept_items items ≡ kept_items (edited e items))

-- The law of steps: a rearrangement that reverses no pairs that meet, and no pair and a kept item, keeps
-- the sheet.
abbrev pub RearrangingKeeps : Type 0
RearrangingKeeps = (source : List ℕ) (items : List Item) (e : Edit) → IsRearrangement items e →
    ((p q : Pair) → ReversesPair items (edited e items) e.moved p q → Meet p.selector q.selector → ⊥) →
    ((p : Pair) (number : ℕ) → ReversesKept items (edited e items) e.moved p number → ⊥) →
    Keeps source items source (edited e items)
