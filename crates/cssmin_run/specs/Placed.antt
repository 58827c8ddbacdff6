-- Where in the input the fault is that a refusal names, by line and column (own).
use Rattle.std.specs.Prelude.{◌≡◌, ℕ, Bool, true, false, if◌then◌else◌, List, [], ◌∷◌, ◌++◌, Option, Some, None, IfSome, codes, take, drop}
use Rattle.css_model.specs.declared.fault.FaultKind.{FaultKind}
use Rattle.css_model.specs.declared.fault.FaultKind.TheVariants.{TooLong}
use Rattle.css_model.specs.declared.fault.SheetFault.{SheetFault}
use Rattle.css_model.specs.Sheets.Fault.{fault_text}
use Rattle.line_places.specs.declared.place.Place.{Place}
use Rattle.line_places.specs.Lines.{place_of, place_text}
use Rattle.style_text.specs.Inputs.{sheet_part}
use Rattle.cssmin_run.specs.Change.{Change}
use Rattle.cssmin_run.specs.Status.{IsMessage}
use Rattle.cssmin_run.specs.Telling.{IsTold}
use Rattle.cssmin_run.specs.declared.status.Status.{Status}
use Rattle.cssmin_run.specs.declared.status.Status.TheVariants.{SheetRefused, SecondRefused}

-- ---- Which place a refusal tells

-- none
abbrev pub nowhere : Status → (read : List ℕ) → Option Place
nowhere status read = None

-- a fault that is at a place in its sheet: any but that the sheet is too long
abbrev pub has_place : FaultKind → Bool
has_place TooLong = false
has_place kind = true

-- the line and the column of a fault in the bytes of its sheet
abbrev pub fault_place : (sheet : List ℕ) → SheetFault → Option Place
fault_place sheet fault = if has_place fault.kind then Some (place_of sheet fault.at) else None

-- that of the fault of the sheet that was read
abbrev pub in_sheet : Status → (read : List ℕ) → Option Place
in_sheet (SheetRefused fault) read = fault_place read fault
in_sheet status read = None

-- that of the fault of the sheet after a document, in the bytes of the sheet
abbrev pub in_sheet_part : Status → (read : List ℕ) → Option Place
in_sheet_part status read = in_sheet status (sheet_part read)

-- that of the fault of one of two sheets, in its own bytes, where the first one has so many
abbrev pub in_two_sheets : (split : ℕ) → Status → (read : List ℕ) → Option Place
in_two_sheets split (SheetRefused fault) read = fault_place (take split read) fault
in_two_sheets split (SecondRefused fault) read = fault_place (drop split read) fault
in_two_sheets split status read = None

-- ---- How it is told

-- the fault of a sheet and its place, to the end of the line
abbrev pub placed_fault : SheetFault → Place → List ℕ
placed_fault fault place = fault_text fault ++ codes " (" ++ place_text place ++ codes ")" ++ 10 ∷ []

-- The status's message: with a place, the line and the column of the fault come after it in brackets.
abbrev pub IsPlacedMessage : Option Place → Status → List ℕ → Type 0
IsPlacedMessage None status text = IsMessage status text
IsPlacedMessage (Some place) (SheetRefused fault) text = text ≡ codes "refused: " ++ placed_fault fault place
IsPlacedMessage (Some place) (SecondRefused fault) text = text ≡ codes "second refused: " ++ placed_fault fault place
IsPlacedMessage (Some place) status text = IsMessage status text

-- This message was written to standard error, or a front of it where a write failed.
abbrev pub TellsAt : Option Place → Status → (err : Change) → Type 0
TellsAt place status err = (text : List ℕ) × IsPlacedMessage place status text × IsTold text err

-- the place that a command tells of the bytes that were left, as far as the source tells them
abbrev pub IsPlaceOf : (place_in : List ℕ → Option Place) → Option Place → (input : Change) → Type 0
IsPlaceOf place_in place input = (read : List ℕ) × IfSome input.old (λ bytes. bytes ≡ read) × (place ≡ place_in read)

-- The refusal was told with the place that the command tells.
abbrev pub TellsRefusal : (place_in : List ℕ → Option Place) → Status → (input err : Change) → Type 0
TellsRefusal place_in status input err = (read : List ℕ) × IfSome input.old (λ bytes. bytes ≡ read) × TellsAt (place_in read) status err
