-- How long the printed text of a sheet is whose blocks of media are opened.
use Rattle.std.specs.Prelude.{ℕ, ◌≡◌, ◌≤◌, List, Ok, length}
use Rattle.css_model.specs.declared.sheet.Item.{Item}
use Rattle.css_model.specs.Sheets.Sheet.{sheet_of}
use Rattle.media_groups.specs.Printed.{printed_opened}

-- The printed text of a sheet as read, with its blocks opened, is no longer than its source.
abbrev pub OpenedIsNoLonger : Type 0
OpenedIsNoLonger = (source : List ℕ) (old : List Item) → sheet_of source ≡ Ok old → length (printed_opened old source) ≤ length source
