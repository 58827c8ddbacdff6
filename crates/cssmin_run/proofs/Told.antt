-- A line that was written, or begun.
use Rattle.std.proofs.Common.{◌≡◌, inl, inr, ℕ, ◌<◌, List, [], ◌∷◌, ◌++◌, Some, Result, Ok, Err, length, take, append_assoc, codes, ap, subst, sym, ◌∙◌, arith}
use Rattle.std.specs.Prelude.{OnOk, OnErr, decimal}
use Rattle.std.proofs.lemmas.List.{take_all}
use Rattle.css_model.specs.declared.fault.SheetFault.{SheetFault}
use Rattle.css_model.specs.Sheets.Fault.{fault_text}
use Rattle.line_places.specs.declared.place.Place.{Place}
use Rattle.line_places.specs.Lines.{place_text}
use Rattle.cssmin_run.specs.Change.{Change, HasFailed, Adds}
use Rattle.cssmin_run.specs.Placed.{IsPlacedMessage, placed_fault}
use Rattle.cssmin_run.specs.Telling.{IsTold}
use Rattle.cssmin_run.specs.declared.status.Status.TheVariants.{SheetRefused, SecondRefused}

pub line_told : {E : Type 0} → (result : Result (Unit {0}) E) (line : List ℕ) (err : Change)
    → OnOk result (Adds line err) → OnErr result (HasFailed err) → OnErr result ((n : ℕ) × (n < length line) × Adds (take n line) err)
    → IsTold line err
line_told (Ok u) line err whole rose part =
    (length line, subst (λ (bytes : List ℕ). Adds bytes err) (sym (take_all (length line) line (omega arith))) whole, inl (omega arith))
line_told (Err e) line err whole rose part = (part.0, part.2, inr rose)

-- the fault of a sheet with its place, part by part
placed_parts : (fault : SheetFault) (place : Place)
    → fault_text fault ++ (codes " (" ++ (decimal place.line ++ (codes ":" ++ (decimal place.column ++ codes ")\n")))) ≡ placed_fault fault place
placed_parts fault place =
    sym (append_assoc (fault_text fault ++ codes " (" ++ place_text place) (codes ")") (10 ∷ [])
    ∙ append_assoc (fault_text fault ++ codes " (") (place_text place) (codes ")\n")
    ∙ append_assoc (fault_text fault) (codes " (") (place_text place ++ codes ")\n")
    ∙ ap (λ (rest : List ℕ). fault_text fault ++ (codes " (" ++ rest))
    (append_assoc (decimal place.line ++ codes ":") (decimal place.column) (codes ")\n") ∙ append_assoc (decimal place.line) (codes ":") (decimal place.column ++ codes ")\n")))

-- the lines of both sheets
pub placed_message : (text : List ℕ) (fault : SheetFault) (place : Place)
    → text ≡ codes "refused: " ++ (fault_text fault ++ (codes " (" ++ (decimal place.line ++ (codes ":" ++ (decimal place.column ++ codes ")\n"))))) → IsPlacedMessage (Some place) (SheetRefused fault) text
placed_message text fault place is = is ∙ ap (λ (rest : List ℕ). codes "refused: " ++ rest) (placed_parts fault place)

pub second_message : (text : List ℕ) (fault : SheetFault) (place : Place)
    → text ≡ codes "second refused: " ++ (fault_text fault ++ (codes " (" ++ (decimal place.line ++ (codes ":" ++ (decimal place.column ++ codes ")\n"))))) → IsPlacedMessage (Some place) (SecondRefused fault) text
second_message text fault place is = is ∙ ap (λ (rest : List ℕ). codes "second refused: " ++ rest) (placed_parts fault place)
