-- What a run tells on standard error, and the exit status that it ends with.
use Rattle.std.specs.Prelude.{◌≡◌, ℕ, List, [], ◌∷◌, ◌++◌, codes, decimal}
use Rattle.command_texts.specs.Texts.{EndsLine}
use Rattle.css_model.specs.Sheets.Fault.{fault_text}
use Rattle.cssmin_run.specs.declared.status.LogFault.{LogFault}
use Rattle.cssmin_run.specs.declared.status.LogFault.TheVariants.{TooLong, BadLine}
use Rattle.style_text.specs.Messages.{doc_fault_text}
use Rattle.cssmin_run.specs.declared.status.Status.{Status}
use Rattle.cssmin_run.specs.declared.status.Status.TheVariants.{Done, Found, Usage, SheetRefused, NoItem, DocRefused, LogRefused, NoSplit, SecondRefused, ReadFault, WriteFault, NoMemory}

abbrev pub number_of : Status → ℕ
number_of Done = 0
number_of Found = 1
number_of Usage = 2
number_of (SheetRefused fault) = 3
number_of ReadFault = 4
number_of WriteFault = 5
number_of NoMemory = 6
number_of (NoItem number) = 7
number_of (DocRefused fault) = 9
number_of (LogRefused fault) = 8
number_of (NoSplit number) = 10
number_of (SecondRefused fault) = 11

-- why a log is refused
abbrev pub log_fault_text : LogFault → List ℕ
log_fault_text TooLong = codes "too long"
log_fault_text (BadLine line) = codes "line " ++ decimal line

-- One line, but for a run that is done, which tells nothing, also where it found something, and for words that are
-- refused, of which some lines tell why.
abbrev pub IsMessage : Status → List ℕ → Type 0
IsMessage Done text = text ≡ []
IsMessage Found text = text ≡ []
IsMessage Usage text = EndsLine text
IsMessage (SheetRefused fault) text = text ≡ codes "refused: " ++ fault_text fault ++ 10 ∷ []
IsMessage (LogRefused fault) text = text ≡ codes "log refused: " ++ log_fault_text fault ++ 10 ∷ []
IsMessage (NoSplit number) text = text ≡ codes "no split " ++ decimal number ++ 10 ∷ []
IsMessage (SecondRefused fault) text = text ≡ codes "second refused: " ++ fault_text fault ++ 10 ∷ []
IsMessage (NoItem number) text = text ≡ codes "no item " ++ decimal number ++ 10 ∷ []
IsMessage ReadFault text = text ≡ codes "read fault" ++ 10 ∷ []
IsMessage WriteFault text = text ≡ codes "write fault" ++ 10 ∷ []
IsMessage (DocRefused fault) text = text ≡ codes "document refused: " ++ doc_fault_text fault ++ 10 ∷ []
IsMessage NoMemory text = text ≡ codes "out of memory" ++ 10 ∷ []

-- a status that tells why the input is refused
abbrev pub IsRefusal : Status → Type 0
IsRefusal (SheetRefused fault) = Unit {0}
IsRefusal (NoItem number) = Unit {0}
IsRefusal (DocRefused fault) = Unit {0}
IsRefusal (LogRefused fault) = Unit {0}
IsRefusal (NoSplit number) = Unit {0}
IsRefusal (SecondRefused fault) = Unit {0}
IsRefusal status = ⊥
