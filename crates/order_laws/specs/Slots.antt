-- How one sheet becomes another: what stands in the place of each item.
use Rattle.std.specs.Prelude.{◌≡◌, ◌↔◌, Bool, false, List, [], ◌∷◌, ◌++◌}
use Rattle.css_model.specs.declared.sheet.Item.{Item}
use Rattle.css_model.specs.Cascade.Order.{Pair, HasPair, IsBefore}
use Rattle.css_model.specs.Sheets.KeptItems.{kept_items}

-- an item of the old sheet, and what stands in its place in the new one
pub record Slot : Type 0 where
  pub old : Item
  pub new : List Item

-- the items of the old sheet
abbrev pub old_items : List Slot → List Item
old_items [] = []
old_items (s ∷ slots) = s.old ∷ old_items slots

-- the items of the new sheet
abbrev pub new_items : List Slot → List Item
new_items [] = []
new_items (s ∷ slots) = s.new ++ new_items slots

-- A slot is fair to the pairs that are not moved: each stands in it in both sheets or in neither, and
-- each two of them in the same order. A kept item stays.
pub record IsFair (moved : Pair → Bool) (s : Slot) : Type 0 where
  pub kept : kept_items s.new ≡ kept_items (s.old ∷ [])
  pub pairs : (p : Pair) → moved p ≡ false → HasPair (s.old ∷ []) p ↔ HasPair s.new p
  pub order : (p q : Pair) → moved p ≡ false → moved q ≡ false → IsBefore (s.old ∷ []) p q ↔ IsBefore s.new p q
