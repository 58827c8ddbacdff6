-- The items that are created by a step (own).
use Rattle.std.specs.Prelude.{◌≡◌, ℕ, ◌<◌, ◌≤◌, List, Some, length, slice_get}
use Rattle.std.specs.List.{Contains}
use Rattle.indexed_sheet.specs.IndexedParts.{IndexedParts}
use Rattle.indexed_sheet.specs.declared.marks.Mark.{Mark}

-- the item of this number was created then
abbrev pub IsCreatedAt : List Mark → (n item_id : ℕ) → Type 0
IsCreatedAt marks n item_id = (m : Mark) × (slice_get marks n ≡ Some m) × (m.item_id ≡ item_id)

-- There are items of these numbers, and no others were created at `next` or later.
pub record AreCreated (indexed : IndexedParts) (next : ℕ) (numbers : List ℕ) : Type 0 where
  pub there : (n : ℕ) → Contains numbers n → n < length indexed.marks
  pub only : (n : ℕ) (m : Mark) → slice_get indexed.marks n ≡ Some m → next ≤ m.item_id → Contains numbers n
