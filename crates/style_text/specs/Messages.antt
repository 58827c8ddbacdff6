-- What the errors say.
use Rattle.std.specs.Prelude.{ℕ, List, ◌++◌, codes, decimal}
use Rattle.css_model.specs.Sheets.Fault.{fault_text}
use Rattle.style_text.specs.declared.fault.DocFault.{DocFault}
use Rattle.style_text.specs.declared.fault.DocFault.TheVariants.{BadLine, TooManyLines}
use Rattle.style_text.specs.declared.fault.StyleError.{StyleError}
use Rattle.style_text.specs.declared.fault.StyleError.TheVariants.{Document, Sheet, NoMemory}

-- why the text of a document is none
abbrev pub doc_fault_text : DocFault → List ℕ
doc_fault_text (BadLine n) = codes "line " ++ decimal n
doc_fault_text TooManyLines = codes "too many lines"

-- why an input was not answered
abbrev pub message : StyleError → List ℕ
message (Document fault) = codes "document refused: " ++ doc_fault_text fault
message (Sheet fault) = codes "refused: " ++ fault_text fault
message NoMemory = codes "out of memory"
