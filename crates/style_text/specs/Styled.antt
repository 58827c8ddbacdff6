-- What an input is answered by: the winners in the document that it gives, or its first fault.
use Rattle.std.specs.Prelude.{◌≡◌, ◌⊎◌, ◌<◌, ◌≤◌, ℕ, List, Vec, length, map, Result, Ok, Err}
use Rattle.std.specs.Global.{Global}
use Rattle.cascade_eval.specs.declared.won.Won.{Won}
use Rattle.cascade_eval.specs.Winners.{AreWinners, outcome_of}
use Rattle.css_model.specs.declared.example.Example.{Example}
use Rattle.css_model.specs.declared.fault.FaultKind.TheVariants.{TooLong}
use Rattle.css_model.specs.declared.fault.SheetFault.{SheetFault}
use Rattle.css_model.specs.declared.sheet.Item.{Item}
use Rattle.css_model.specs.Sheets.Limits.{max_bytes}
use Rattle.css_model.specs.Sheets.Sheet.{sheet_of}
use Rattle.style_text.specs.Inputs.{document_part, sheet_part}
use Rattle.style_text.specs.Lines.{style_text}
use Rattle.style_text.specs.Reading.{IsDocument, IsNoDocument}
use Rattle.style_text.specs.declared.fault.DocFault.{DocFault}
use Rattle.style_text.specs.declared.fault.StyleError.{StyleError}
use Rattle.style_text.specs.declared.fault.StyleError.TheVariants.{Document, Sheet, NoMemory}

-- ---- A document's text and a sheet

-- The text is what is printed of the winners of the sheet in the document.
pub record IsStyle (document source text : List ℕ) : Type 0 where
  pub example : Example
  pub items : List Item
  pub wons : List Won
  pub document_read : IsDocument document example
  pub sheet_read : sheet_of source ≡ Ok items
  pub win : AreWinners example items wons
  pub text_is : text ≡ style_text items (map (λ won. outcome_of won) wons)

-- The document's text comes first, and the sheet has this fault.
pub record IsSheetFault (document source : List ℕ) (fault : SheetFault) : Type 0 where
  pub example : Example
  pub document_read : IsDocument document example
  pub refused : sheet_of source ≡ Err fault

-- what is made of both
abbrev pub Styles : Result (Vec ℕ Global) StyleError → (document source : List ℕ) → Type 0
Styles (Ok text) document source = IsStyle document source text.items
Styles (Err (Document fault)) document source = IsNoDocument document fault
Styles (Err (Sheet fault)) document source = IsSheetFault document source fault
Styles (Err NoMemory) document source = Unit {0}

-- ---- An input

-- The input is short enough, and the text is what is printed of the winners of its sheet in its document.
pub record IsStyled (input text : List ℕ) : Type 0 where
  pub short : length input ≤ max_bytes
  pub style : IsStyle (document_part input) (sheet_part input) text

-- the fault of an input of more than `max_bytes` bytes
abbrev pub too_long : SheetFault
too_long = record { kind = TooLong; at = max_bytes }

-- the document of an input is refused for this fault
pub record IsDocRefused (input : List ℕ) (fault : DocFault) : Type 0 where
  pub short : length input ≤ max_bytes
  pub refused : IsNoDocument (document_part input) fault

-- its sheet is
abbrev pub IsSheetRefused : List ℕ → SheetFault → Type 0
IsSheetRefused input fault =
    ((max_bytes < length input) × (fault ≡ too_long))
    ⊎ ((length input ≤ max_bytes) × IsSheetFault (document_part input) (sheet_part input) fault)

-- Why an input was not answered: its length, then its document, then its sheet; or want of memory.
abbrev pub IsCause : List ℕ → StyleError → Type 0
IsCause input (Document fault) = IsDocRefused input fault
IsCause input (Sheet fault) = IsSheetRefused input fault
IsCause input NoMemory = Unit {0}
