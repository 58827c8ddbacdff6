-- Steps of other rules: what becomes of a step of a sheet while another one is taken.
use Rattle.std.specs.Prelude.{◌≡◌, ◌≢◌, ◌⊎◌, ℕ, ◌<◌, ◌≤◌, false, List, map, Some, length, slice_get, take}
use Rattle.std.specs.List.{AllByRecursion}
use Rattle.css_model.specs.declared.sheet.Item.{Item}
use Rattle.css_model.specs.Cascade.Order.{Pair}
use Rattle.css_model.specs.Sheets.Limits.{max_items}
use Rattle.order_laws.specs.Edits.{is_moved, Change, Edit, edited, slots_from, IsRearrangement}
use Rattle.order_laws.specs.Reversing.{ReversesPair, ReversesKept}
use Rattle.order_laws.specs.Slots.{new_items}
use Rattle.step_laws.specs.declared.step.Step.{Step}
use Rattle.step_laws.specs.declared.step.Step.TheVariants.{CutDecl, CutSel, JoinSelUp, JoinSelDown, JoinDeclUp, JoinDeclDown, Share}
use Rattle.step_laws.specs.Steps.{IsStep, first_item, last_item}

-- an edit leaves the item of this number
abbrev pub Leaves : Edit → ℕ → Type 0
Leaves e n = AllByRecursion (λ c. c.at ≢ n) e.changes

-- the number that an item of this number has behind an edit, if it is left
abbrev pub new_number : Edit → List Item → ℕ → ℕ
new_number e items n = length (new_items (slots_from 0 e.changes (take n items)))

-- an edit of items with other numbers
abbrev pub renumbered_edit : (ℕ → ℕ) → Edit → Edit
renumbered_edit f e = record {
  changes = map (λ (c : Change). record { at = f c.at; by = c.by }) e.changes;
  moved = record { out_of = map f e.moved.out_of; selectors = e.moved.selectors; decls = e.moved.decls };
}

-- a step of items with other numbers
abbrev pub renumbered : (ℕ → ℕ) → Step → Step
renumbered f (CutDecl n i) = CutDecl (f n) i
renumbered f (CutSel n i) = CutSel (f n) i
renumbered f (JoinSelUp x y) = JoinSelUp (f x) (f y)
renumbered f (JoinSelDown x y) = JoinSelDown (f x) (f y)
renumbered f (JoinDeclUp x y) = JoinDeclUp (f x) (f y)
renumbered f (JoinDeclDown x y) = JoinDeclDown (f x) (f y)
renumbered f (Share x y) = Share (f x) (f y)

-- an item that is left stands at its new number
abbrev pub ItemsStay : Type 0
ItemsStay = (e : Edit) (items : List Item) (n : ℕ) (x : Item) → Leaves e n → slice_get items n ≡ Some x → slice_get (edited e items) (new_number e items n) ≡ Some x

-- and before those that stood behind it
abbrev pub NumbersAscend : Type 0
NumbersAscend = (e : Edit) (items : List Item) (m n : ℕ) (x : Item) → Leaves e m → slice_get items m ≡ Some x → m < n → new_number e items m < new_number e items n

-- each edit leaves the items of the other one
abbrev pub AreOfOthers : List Item → Edit → Edit → Type 0
AreOfOthers items d e = AllByRecursion (λ c. Leaves d c.at × (c.at < length items)) e.changes × AllByRecursion (λ c. Leaves e c.at × (c.at < length items)) d.changes

-- Edits of other items may be made in either order.
abbrev pub EditsCommute : Type 0
EditsCommute = (items : List Item) (d e : Edit) → AreOfOthers items d e →
    edited (renumbered_edit (new_number d items) e) (edited d items) ≡ edited (renumbered_edit (new_number e items) d) (edited e items)

-- a step takes none of the items that an edit changes
abbrev pub IsOfOthers : Edit → Step → Type 0
IsOfOthers d k = Leaves d (first_item k) × Leaves d (last_item k)

-- a step of two rules
abbrev pub IsOfTwo : Step → Type 0
IsOfTwo (CutDecl n i) = ⊥
IsOfTwo (CutSel n i) = ⊥
IsOfTwo _ = Unit {0}

-- A join or a share of two rules that an edit leaves is one behind it, with new numbers, where the edit does
-- not take the room for one more item.
abbrev pub JoinsStay : Type 0
JoinsStay = (items : List Item) (d : Edit) (k : Step) (e : Edit) → IsOfTwo k → IsOfOthers d k → (length (edited d items) ≤ length items) ⊎ (length (edited d items) < max_items) →
    IsStep items k e → IsStep (edited d items) (renumbered (new_number d items) k) (renumbered_edit (new_number d items) e)

-- two edits, each of which may be made behind the other
pub record AreSideBySide (items : List Item) (d e : Edit) : Type 0 where
  pub others : AreOfOthers items d e
  pub first : IsRearrangement items d
  pub second : IsRearrangement (edited e items) (renumbered_edit (new_number e items) d)

-- What an edit reverses it reverses behind another one too, which moves neither of the two pairs.
abbrev pub HindrancesGoOn : Type 0
HindrancesGoOn = (items : List Item) (d e : Edit) → AreSideBySide items d e → (p q : Pair) → is_moved d.moved p ≡ false → is_moved d.moved q ≡ false →
    ReversesPair items (edited e items) e.moved p q →
    let behind = renumbered_edit (new_number d items) e in ReversesPair (edited d items) (edited behind (edited d items)) behind.moved p q

-- and so with a kept item
abbrev pub KeptHindrancesGoOn : Type 0
KeptHindrancesGoOn = (items : List Item) (d e : Edit) → AreSideBySide items d e → (p : Pair) (number : ℕ) → is_moved d.moved p ≡ false →
    ReversesKept items (edited e items) e.moved p number →
    let behind = renumbered_edit (new_number d items) e in ReversesKept (edited d items) (edited behind (edited d items)) behind.moved p number
