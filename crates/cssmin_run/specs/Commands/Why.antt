-- What `why` does: a style sheet on the input, on the output what hinders the move of one of its rules to another one.
use Rattle.std.specs.Prelude.{◌≡◌, ℕ, List, Option, Some}
use Rattle.css_model.specs.Sheets.Limits.{max_bytes}
use Rattle.css_model.specs.Sheets.Sheet.{sheet_of}
use Rattle.overlap.specs.PairsParts.{PairsParts}
use Rattle.why_text.specs.WhyTexts.{Asks, IsCause, IsWhyText}
use Rattle.why_text.specs.declared.error.WhyError.TheVariants as unexplained
use Rattle.cssmin_run.specs.Change.{Change}
use Rattle.cssmin_run.specs.Commands.Cmp.{unasked}
use Rattle.cssmin_run.specs.Placed.{nowhere}
use Rattle.cssmin_run.specs.Tasks.{Does, Silent}
use Rattle.cssmin_run.specs.declared.status.Status.{Status}
use Rattle.cssmin_run.specs.declared.status.Status.TheVariants.{SheetRefused, NoItem}

-- What the run asked for is held, only for what the move reverses, and the text tells by it what hinders the move.
abbrev pub ExplainsMove : (from to : ℕ) (budget : Option ℕ) → (read text : List ℕ) (held : Option PairsParts) → Type 0
ExplainsMove from to budget read text held = (pairs : PairsParts) × (held ≡ Some pairs) × Asks (sheet_of read) from to (unasked budget) pairs × IsWhyText read from to pairs text

-- a sheet is refused for its fault, and then a number that no item has
abbrev pub WhyRefuses : (from to : ℕ) → Status → List ℕ → Type 0
WhyRefuses from to (SheetRefused fault) read = IsCause read from to (unexplained.Sheet fault)
WhyRefuses from to (NoItem number) read = IsCause read from to (unexplained.NoItem number)
WhyRefuses from to status read = ⊥

abbrev pub WhyDoes : (from to : ℕ) (budget : Option ℕ) → Status → (input output err : Change) → (held : Option PairsParts) → Type 0
WhyDoes from to budget status input output err held = Does max_bytes nowhere (Silent (ExplainsMove from to budget)) (WhyRefuses from to) status input output err held
