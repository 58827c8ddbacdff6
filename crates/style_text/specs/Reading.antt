-- How the parts of an input are read.
use Rattle.std.specs.Prelude.{◌≡◌, ℕ, List, Result, Ok, Err}
use Rattle.css_model.specs.declared.example.Example.{Example}
use Rattle.css_model.specs.Sheets.Sheet.{sheet_of}
use Rattle.css_model.specs.Sheets.SheetParts.{SheetParts}
use Rattle.doc_text.specs.Reading.{IsRead}
use Rattle.doc_text.specs.declared.read.DocError.TheVariants as unread
use Rattle.style_text.specs.declared.fault.DocFault.{DocFault}
use Rattle.style_text.specs.declared.fault.DocFault.TheVariants.{BadLine, TooManyLines}
use Rattle.style_text.specs.declared.fault.StyleError.{StyleError}
use Rattle.style_text.specs.declared.fault.StyleError.TheVariants.{Document, Sheet, NoMemory}

-- a text is that of this example
unfoldable pub IsDocument : List ℕ → Example → Type 0
IsDocument text x = IsRead (Ok x) text

-- a text is that of no example, for this fault
abbrev pub IsNoDocument : List ℕ → DocFault → Type 0
IsNoDocument text (BadLine n) = IsRead (Err (unread.BadLine n)) text
IsNoDocument text TooManyLines = IsRead (Err unread.TooManyLines) text

-- what the reader of a document gave; memory may run out at any text
abbrev pub ReadsDocument : Result Example StyleError → List ℕ → Type 0
ReadsDocument (Ok x) text = IsDocument text x
ReadsDocument (Err (Document fault)) text = IsNoDocument text fault
ReadsDocument (Err (Sheet fault)) text = ⊥
ReadsDocument (Err NoMemory) text = Unit {0}

-- what the reader of a sheet gave
abbrev pub ReadsSheet : Result SheetParts StyleError → List ℕ → Type 0
ReadsSheet (Ok sheet) source = sheet_of source ≡ Ok sheet.items
ReadsSheet (Err (Document fault)) source = ⊥
ReadsSheet (Err (Sheet fault)) source = sheet_of source ≡ Err fault
ReadsSheet (Err NoMemory) source = Unit {0}
