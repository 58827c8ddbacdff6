-- The marks of some items, and what always holds of them.
use Rattle.std.specs.Prelude.{◌≡◌, ◌≢◌, ℕ, ◌<◌, List, Some, map, slice_get}
use Rattle.std.specs.List.{All, AllPairs}
use Rattle.indexed_sheet.specs.declared.marks.Mark.{Mark}

-- the marks, and the item id of the next one
pub record MarkList : Type 0 where
  pub list : List Mark
  pub next : ℕ

-- the order key of each, and the item id of each
abbrev pub order_keys_of : List Mark → List ℕ
order_keys_of list = map (λ m. m.order_key) list

abbrev pub item_ids_of : List Mark → List ℕ
item_ids_of list = map (λ m. m.item_id) list

-- order keys ascend
abbrev pub Ascends : List Mark → Type 0
Ascends list = AllPairs (λ m n. m.order_key < n.order_key) list

-- Order keys ascend. Item ids differ, and are past.
pub record AreMarks (list : List Mark) (next : ℕ) : Type 0 where
  pub ascend : Ascends list
  pub differ : AllPairs (λ m n. m.item_id ≢ n.item_id) list
  pub past : All (λ m. m.item_id < next) list

-- A mark that was created before `first` was created before all marks after it.
abbrev pub AreFirst : List Mark → ℕ → Type 0
AreFirst list first = AllPairs (λ m n. m.item_id < first → m.item_id < n.item_id) list

-- all marks after that of this number were created later
abbrev pub IsOldestBelow : List Mark → ℕ → Type 0
IsOldestBelow list n = (k : ℕ) (own other : Mark) → n < k → slice_get list n ≡ Some own → slice_get list k ≡ Some other → own.item_id < other.item_id

-- the mark of this number has the order key
abbrev pub IsOrderKeyAt : List Mark → ℕ → ℕ → Type 0
IsOrderKeyAt list order_key n = (m : Mark) × (slice_get list n ≡ Some m) × (m.order_key ≡ order_key)

-- no mark has the order key
abbrev pub LacksOrderKey : List Mark → ℕ → Type 0
LacksOrderKey list order_key = (n : ℕ) (m : Mark) → slice_get list n ≡ Some m → m.order_key ≡ order_key → ⊥
