-- What `dead` does: a style sheet on the input, on the output a line for each selector, whether it matches anything.
use Rattle.std.specs.Prelude.{◌≡◌, ℕ, List, Option, Some}
use Rattle.css_model.specs.Sheets.Limits.{max_bytes}
use Rattle.css_model.specs.Sheets.Sheet.{sheet_of}
use Rattle.dead_text.specs.DeadTexts.{AsksOf, TellsOf}
use Rattle.overlap.specs.PairsParts.{PairsParts}
use Rattle.overlap.specs.Remembered.{IsTrueList}
use Rattle.cssmin_run.specs.Change.{Change}
use Rattle.cssmin_run.specs.Commands.Cmp.{unasked}
use Rattle.cssmin_run.specs.Commands.Min.{MinRefuses}
use Rattle.cssmin_run.specs.Placed.{nowhere}
use Rattle.cssmin_run.specs.Tasks.{Does, Silent}
use Rattle.cssmin_run.specs.declared.status.Status.{Status}

-- The answers that the run asked for are held, only for the selectors of the sheet, and they are true. The text tells each one's life
-- by them.
abbrev pub TellsLives : (budget : Option ℕ) → (read text : List ℕ) (held : Option PairsParts) → Type 0
TellsLives budget read text held = (pairs : PairsParts) × (held ≡ Some pairs) × AsksOf (sheet_of read) (unasked budget) pairs × ∥ IsTrueList pairs ∥₁ × TellsOf pairs read text

-- A sheet is refused as `min` refuses it.
abbrev pub DeadDoes : (budget : Option ℕ) → Status → (input output err : Change) → (held : Option PairsParts) → Type 0
DeadDoes budget status input output err held = Does max_bytes nowhere (Silent (TellsLives budget)) MinRefuses status input output err held
