-- What the sheets that are made to try the program on are read as.
use Rattle.std.specs.Prelude.{ℕ, ◌≤◌, IsOk}
use Rattle.css_model.specs.Sheets.Sheet.{sheet_of}
use Rattle.trial_gen.specs.Made.{made_sheet}

-- A made sheet of no more rules than are made has no fault.
abbrev pub MadeSheetsHaveNoFault : Type 0
MadeSheetsHaveNoFault = (rules : ℕ) → rules ≤ 2000 → IsOk (sheet_of (made_sheet rules))
