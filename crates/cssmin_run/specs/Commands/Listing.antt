-- What `list` does: a style sheet on the input, on the output a line for each of its items.
use Rattle.std.specs.Prelude.{◌≡◌, ℕ, List, Option, None}
use Rattle.css_model.specs.Sheets.Limits.{max_bytes}
use Rattle.list_text.specs.ListTexts.{IsListText}
use Rattle.overlap.specs.PairsParts.{PairsParts}
use Rattle.cssmin_run.specs.Change.{Change}
use Rattle.cssmin_run.specs.Commands.Min.{MinRefuses}
use Rattle.cssmin_run.specs.Placed.{in_sheet}
use Rattle.cssmin_run.specs.Tasks.{Does, Silent}
use Rattle.cssmin_run.specs.declared.status.Status.{Status}

-- the text has the lines of the items of the sheet; no answers are held
abbrev pub ListsItems : (read text : List ℕ) (held : Option PairsParts) → Type 0
ListsItems read text held = IsListText read text × (held ≡ None)

-- A sheet is refused as `min` refuses it, with the line and the column of the fault.
abbrev pub ListDoes : Status → (input output err : Change) → (held : Option PairsParts) → Type 0
ListDoes status input output err held = Does max_bytes in_sheet (Silent ListsItems) MinRefuses status input output err held
