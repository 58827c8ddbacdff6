-- What `cmp` does: two selectors compared, and the text of the answer on the output.
use Rattle.std.specs.Prelude.{◌≡◌, ℕ, Bool, true, false, List, [], Option, Some, None, Result}
use Rattle.cnf.specs.Budgets.{no_limit}
use Rattle.compare_text.specs.ComparedTexts.{selector_or_reason, AsksFor, IsCompared}
use Rattle.compare_text.specs.LoggedTexts.{IsComparedWithLog}
use Rattle.css_model.specs.Documents.SelectorParts.{SelectorParts}
use Rattle.overlap.specs.PairsParts.{PairsParts}
use Rattle.cssmin_run.specs.Change.{Change}
use Rattle.cssmin_run.specs.Telling.{Tells}
use Rattle.cssmin_run.specs.Writing.{Writes}
use Rattle.cssmin_run.specs.declared.status.Status.{Status}
use Rattle.cssmin_run.specs.declared.status.Status.TheVariants.{Done, WriteFault, NoMemory}

-- no answers yet, with the budget of the words, or with none
abbrev pub unasked : Option ℕ → PairsParts
unasked None = record { budget = no_limit; answers = [] }
unasked (Some budget) = record { budget = budget; answers = [] }

-- the text of what two texts are compared to, with a log or without one
abbrev pub IsTextOf : (log : Bool) → (left right : Result SelectorParts ℕ) → PairsParts → (text : List ℕ) → Type 0
IsTextOf false left right pairs text = IsCompared left right pairs text
IsTextOf true left right pairs text = IsComparedWithLog left right pairs text

-- What the run asked for is held, and the text is that of the answer that is held for the two texts, or of
-- the reason why they are not compared.
pub record IsAnswer (left right : List ℕ) (budget : Option ℕ) (log : Bool) (held : Option PairsParts) (text : List ℕ) : Type 0 where
  pub pairs : PairsParts
  pub held_is : held ≡ Some pairs
  pub asked : AsksFor (selector_or_reason left) (selector_or_reason right) (unasked budget) pairs
  pub compared : IsTextOf log (selector_or_reason left) (selector_or_reason right) pairs text

-- What `cmp` did, by its status. Want of memory is told before the first byte is written.
abbrev pub CmpDoes : (left right : List ℕ) (budget : Option ℕ) (log : Bool) → Status → (output err : Change) → (held : Option PairsParts) → Type 0
CmpDoes left right budget log Done output err held = (text : List ℕ) × IsAnswer left right budget log held text × Writes text [] Done output err
CmpDoes left right budget log WriteFault output err held = (text : List ℕ) × IsAnswer left right budget log held text × Writes text [] WriteFault output err
CmpDoes left right budget log NoMemory output err held = (held ≡ None) × Tells NoMemory err
CmpDoes left right budget log status output err held = ⊥
