-- A rule that is moved to another place of the sheet.
use Rattle.std.specs.Prelude.{◌≡◌, ◌≢◌, ℕ, nat_lt, if◌then◌else◌, List, [], ◌∷◌, Some, slice_get}
use Rattle.std.specs.List.{All, insert, remove}
use Rattle.css_model.specs.declared.sheet.Item.{Item}
use Rattle.css_model.specs.declared.sheet.Item.TheVariants.{Rule}
use Rattle.css_model.specs.Cascade.Order.{Keeps}
use Rattle.css_model.specs.Sheets.RuleParts.{RuleParts}
use Rattle.order_laws.specs.Edits.{whole_rule, Edit, edited, IsRearrangement}
use Rattle.order_laws.specs.Reversed.{IsApart, reversed}

-- The items once the one of number `from`, counted from 0, is moved: it stands directly behind the item of
-- number `to` where it stood before it, and directly before it where it stood behind.
abbrev pub item_moved : List Item → ℕ → ℕ → Item → List Item
item_moved items from to item = insert (remove items from) to item

-- a rule of number `from` that is moved to `other`, the item of number `to`, as an edit
abbrev pub moving : ℕ → ℕ → RuleParts → Item → Edit
moving from to r other = record {
  changes =
      record { at = from; by = [] }
      ∷ record { at = to; by = if nat_lt from to then other ∷ Rule r ∷ [] else Rule r ∷ other ∷ [] }
      ∷ [];
  moved = whole_rule from r;
}

-- to move a rule is a rearrangement
abbrev pub MovingRearranges : Type 0
MovingRearranges = (items : List Item) (from to : ℕ) (r : RuleParts) (other : Item) →
    slice_get items from ≡ Some (Rule r) → slice_get items to ≡ Some other → from ≢ to →
    IsRearrangement items (moving from to r other)
    × (edited (moving from to r other) items ≡ item_moved items from to (Rule r))

-- A rule may be moved, and the sheet is kept, where all that it reverses is pairs that do not meet.
abbrev pub MovingApartKeeps : Type 0
MovingApartKeeps = (source : List ℕ) (items : List Item) (from to : ℕ) (r : RuleParts) (other : Item) →
    slice_get items from ≡ Some (Rule r) → slice_get items to ≡ Some other → from ≢ to →
    All (λ x. IsApart x.moved.pair x.other) (reversed items (item_moved items from to (Rule r)) (whole_rule from r)) →
    Keeps source items source (item_moved items from to (Rule r))
