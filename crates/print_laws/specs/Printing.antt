-- What printing a style sheet keeps of it.
use Rattle.std.specs.Prelude.{ℕ, ◌≡◌, ◌≤◌, List, Ok, length}
use Rattle.css_model.specs.declared.sheet.Item.{Item}
use Rattle.css_model.specs.Sheets.ComesFrom.{ComesFrom}
use Rattle.css_model.specs.Sheets.Limits.{max_bytes}
use Rattle.css_model.specs.Sheets.Printed.{printed}
use Rattle.css_model.specs.Sheets.Sheet.{sheet_of}
use Rattle.css_model.specs.Sheets.Spelling.{AreSame}
use Rattle.sheet_laws.specs.Twins.{AreTwins}

-- The printed text of items that come from those that a source was read as, where it is no longer than a sheet may be, is read back as them, up to
-- spelling, and printed again it is the same.
abbrev pub PrintedReadsBack : Type 0
PrintedReadsBack = (source : List ℕ) (old new : List Item) → sheet_of source ≡ Ok old → ComesFrom source old new → length (printed source new) ≤ max_bytes
    → (again : List Item) × (sheet_of (printed source new) ≡ Ok again) × AreSame source new (printed source new) again
    × (printed (printed source new) again ≡ printed source new)

-- What the printed text is read back as is the twin of those items, part by part.
abbrev pub PrintedReadsBackAsTwin : Type 0
PrintedReadsBackAsTwin = (source : List ℕ) (old new again : List Item) → sheet_of source ≡ Ok old → ComesFrom source old new → length (printed source new) ≤ max_bytes
    → sheet_of (printed source new) ≡ Ok again → AreTwins source (printed source new) new again

-- The printed text of a sheet as read is no longer than its source.
abbrev pub PrintedIsNoLonger : Type 0
PrintedIsNoLonger = (source : List ℕ) (old : List Item) → sheet_of source ≡ Ok old → length (printed source old) ≤ length source
