-- What the errors say.
use Rattle.std.specs.Prelude.{ℕ, List, ◌++◌, codes}
use Rattle.css_model.specs.Sheets.Fault.{fault_text}
use Rattle.sheet_read.specs.declared.fault.SheetError.{SheetError}
use Rattle.sheet_read.specs.declared.fault.SheetError.TheVariants.{Fault, NoMemory}

-- why a style sheet was not read
abbrev pub message : SheetError → List ℕ
message (Fault fault) = codes "the style sheet is refused: " ++ fault_text fault
message NoMemory = codes "out of memory"
