-- Whether a sheet has a fault (own).
use Rattle.std.specs.Prelude.{◌≡◌, ℕ, List, Err, IsOk}
use Rattle.css_model.specs.declared.fault.SheetFault.{SheetFault}
use Rattle.css_model.specs.Sheets.Sheet.{sheet_of}

-- the sheet is refused for this fault
unfoldable pub HasFault : List ℕ → SheetFault → Type 0
HasFault read fault = sheet_of read ≡ Err fault

-- the sheet has no fault
unfoldable pub HasNoFault : List ℕ → Type 0
HasNoFault read = IsOk (sheet_of read)
