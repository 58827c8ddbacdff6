-- What `diff` does: two style sheets on the input, one behind the other, on the output all that is found in them.
use Rattle.std.specs.Prelude.{◌≡◌, ℕ, List, Option, Some, codes}
use Rattle.diff_text.specs.DiffTexts.{IsDiffText}
use Rattle.overlap.specs.PairsParts.{PairsParts}
use Rattle.same_text.specs.SameTexts.{max_both}
use Rattle.sheet_order.specs.Allowing.{Stays}
use Rattle.cssmin_run.specs.Change.{Change}
use Rattle.cssmin_run.specs.Commands.Cmp.{unasked}
use Rattle.cssmin_run.specs.Commands.Same.{SameRefuses}
use Rattle.cssmin_run.specs.Placed.{in_two_sheets}
use Rattle.cssmin_run.specs.Tasks.{Finds, Silent}
use Rattle.cssmin_run.specs.declared.status.Status.{Status}

-- What the run asked for is held, and the text tells by it what is found in the sheet of the first bytes, so many, and that of the
-- others: at most so many couples in another order.
abbrev pub TellsDifferences : (split : ℕ) (budget : Option ℕ) (limit : ℕ) → (read text : List ℕ) (held : Option PairsParts) → Type 0
TellsDifferences split budget limit read text held = (pairs : PairsParts) × (held ≡ Some pairs) × Stays (unasked budget) pairs × IsDiffText read split limit pairs text

-- the text of two sheets in which nothing is found
abbrev pub same_line : List ℕ
same_line = codes "same\n"

-- The status says whether something was found. The input is refused as `same` refuses it, with the line and the column of the fault
-- in the bytes of its sheet.
abbrev pub DiffDoes : (split : ℕ) (budget : Option ℕ) (limit : ℕ) → Status → (input output err : Change) → (held : Option PairsParts) → Type 0
DiffDoes split budget limit status input output err held = Finds same_line max_both (in_two_sheets split) (Silent (TellsDifferences split budget limit)) (SameRefuses split) status input output err held
