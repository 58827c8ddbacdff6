-- What `lint` does: a style sheet on the input, on the output a line for each thing that can go from it.
use Rattle.std.specs.Prelude.{◌≡◌, ℕ, List, [], Option, Some}
use Rattle.css_model.specs.Sheets.Limits.{max_bytes}
use Rattle.css_model.specs.Sheets.Sheet.{sheet_of}
use Rattle.lint_text.specs.Asking.{AsksOf}
use Rattle.lint_text.specs.LintTexts.{IsLintText}
use Rattle.overlap.specs.PairsParts.{PairsParts}
use Rattle.cssmin_run.specs.Change.{Change}
use Rattle.cssmin_run.specs.Commands.Cmp.{unasked}
use Rattle.cssmin_run.specs.Commands.Min.{MinRefuses}
use Rattle.cssmin_run.specs.Placed.{in_sheet}
use Rattle.cssmin_run.specs.Tasks.{Finds, Silent}
use Rattle.cssmin_run.specs.declared.status.Status.{Status}

-- What the run asked for is held, only for the selectors of the sheet, and the text tells what is found by it.
abbrev pub TellsFound : (budget : Option ℕ) → (read text : List ℕ) (held : Option PairsParts) → Type 0
TellsFound budget read text held = (pairs : PairsParts) × (held ≡ Some pairs) × AsksOf read (sheet_of read) (unasked budget) pairs × IsLintText pairs read text

-- The status says whether something was found. A sheet is refused as `min` refuses it, with the line and the column of
-- the fault.
abbrev pub LintDoes : (budget : Option ℕ) → Status → (input output err : Change) → (held : Option PairsParts) → Type 0
LintDoes budget status input output err held = Finds [] max_bytes in_sheet (Silent (TellsFound budget)) MinRefuses status input output err held
