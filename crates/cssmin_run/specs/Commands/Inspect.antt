-- What `inspect` does: a document and a style sheet on the input, on the output what the rules of the sheet apply to the marked element.
use Rattle.std.specs.Prelude.{◌≡◌, ℕ, List, Option, None}
use Rattle.css_model.specs.Sheets.Limits.{max_bytes}
use Rattle.inspect_text.specs.InspectTexts.{IsInspected}
use Rattle.overlap.specs.PairsParts.{PairsParts}
use Rattle.cssmin_run.specs.Change.{Change}
use Rattle.cssmin_run.specs.Commands.Style.{StyleRefuses}
use Rattle.cssmin_run.specs.Placed.{in_sheet_part}
use Rattle.cssmin_run.specs.Tasks.{Does, Silent}
use Rattle.cssmin_run.specs.declared.status.Status.{Status}

-- the text has the lines of the groups; no answers are held
abbrev pub TellsGroups : (read text : List ℕ) (held : Option PairsParts) → Type 0
TellsGroups read text held = IsInspected read text × (held ≡ None)

-- A document or a sheet is refused as `style` refuses it; a sheet with the line and the column of the fault in it.
abbrev pub InspectDoes : Status → (input output err : Change) → (held : Option PairsParts) → Type 0
InspectDoes status input output err held = Does max_bytes in_sheet_part (Silent TellsGroups) StyleRefuses status input output err held
