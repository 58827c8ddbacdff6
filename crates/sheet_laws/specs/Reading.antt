-- What a source is read as.
use Rattle.std.specs.Prelude.{ℕ, ◌≡◌, List, Ok}
use Rattle.css_model.specs.declared.sheet.Item.{Item}
use Rattle.css_model.specs.Sheets.Sheet.{sheet_of}
use Rattle.css_model.specs.Sheets.Sound.{IsSound}

-- what a source is read as is sound for it
abbrev pub ReadIsSound : Type 0
ReadIsSound = (source : List ℕ) (items : List Item) → sheet_of source ≡ Ok items → IsSound source items
