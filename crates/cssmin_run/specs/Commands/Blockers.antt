-- What `blockers` does: a style sheet on the input, on the output what stops the merges that are left in it.
use Rattle.std.specs.Prelude.{◌≡◌, ℕ, List, Option, Some}
use Rattle.blockers_text.specs.BlockersTexts.{IsBlockersText}
use Rattle.css_model.specs.Sheets.Limits.{max_bytes}
use Rattle.overlap.specs.PairsParts.{PairsParts}
use Rattle.cssmin_run.specs.Change.{Change}
use Rattle.cssmin_run.specs.Commands.Cmp.{unasked}
use Rattle.cssmin_run.specs.Commands.Min.{MinRefuses}
use Rattle.cssmin_run.specs.Placed.{in_sheet}
use Rattle.cssmin_run.specs.Tasks.{Does, Silent}
use Rattle.cssmin_run.specs.declared.status.Status.{Status}

-- What the run asked for is held, with the budget of the words, and the text tells by it which items stop steps.
abbrev pub TellsBlockers : (budget : Option ℕ) → (read text : List ℕ) (held : Option PairsParts) → Type 0
TellsBlockers budget read text held = (pairs : PairsParts) × (held ≡ Some pairs) × (pairs.budget ≡ (unasked budget).budget) × IsBlockersText pairs read text

-- A sheet is refused as `min` refuses it, with the line and the column of the fault.
abbrev pub BlockersDoes : (budget : Option ℕ) → Status → (input output err : Change) → (held : Option PairsParts) → Type 0
BlockersDoes budget status input output err held = Does max_bytes in_sheet (Silent (TellsBlockers budget)) MinRefuses status input output err held
