-- Where kept items stand in the part of a sheet that a step changes (own).
use Rattle.std.specs.Prelude.{◌≡◌, ℕ, ◌≤◌, ◌<◌, true, List, Some, slice_get}
use Rattle.css_model.specs.declared.sheet.Item.{Item}
use Rattle.css_model.specs.Sheets.KeptItems.{is_kept}

-- each kept item of the window stands in its middle part
abbrev pub AreBetween : List Item → ℕ → ℕ → ℕ → Type 0
AreBetween items start middle last = (i : ℕ) (item : Item) → slice_get items i ≡ Some item → is_kept item ≡ true → start ≤ i → i ≤ last → (middle ≤ i) × (i < last)
