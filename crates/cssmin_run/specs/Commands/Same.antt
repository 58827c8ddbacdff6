-- What `same` does: two style sheets on the input, one behind the other, on the output what is found in them.
use Rattle.std.specs.Prelude.{◌≡◌, ℕ, List, Option, Some}
use Rattle.overlap.specs.PairsParts.{PairsParts}
use Rattle.same_text.specs.SameTexts.{IsCause, IsSameText, max_both}
use Rattle.same_text.specs.declared.error.SameError.TheVariants as uncompared
use Rattle.sheet_order.specs.Allowing.{Stays}
use Rattle.cssmin_run.specs.Change.{Change}
use Rattle.cssmin_run.specs.Commands.Cmp.{unasked}
use Rattle.cssmin_run.specs.Placed.{nowhere}
use Rattle.cssmin_run.specs.Tasks.{Does, Silent}
use Rattle.cssmin_run.specs.declared.status.Status.{Status}
use Rattle.cssmin_run.specs.declared.status.Status.TheVariants.{SheetRefused, NoSplit, SecondRefused}

-- What the run asked for is held, and the text tells by it what is found in the sheet of the first bytes, so many, and that of the others.
abbrev pub ComparesSheets : (split : ℕ) (budget : Option ℕ) → (read text : List ℕ) (held : Option PairsParts) → Type 0
ComparesSheets split budget read text held = (pairs : PairsParts) × (held ≡ Some pairs) × Stays (unasked budget) pairs × IsSameText read split pairs text

-- An input of more bytes than two sheets may have is refused as a first sheet that is too long; and else one that is shorter than the
-- first sheet, the first sheet for its fault, and then the second one.
abbrev pub SameRefuses : (split : ℕ) → Status → List ℕ → Type 0
SameRefuses split (SheetRefused fault) read = IsCause read split (uncompared.First fault)
SameRefuses split (NoSplit number) read = IsCause read split (uncompared.NoSplit number)
SameRefuses split (SecondRefused fault) read = IsCause read split (uncompared.Second fault)
SameRefuses split status read = ⊥

abbrev pub SameDoes : (split : ℕ) (budget : Option ℕ) → Status → (input output err : Change) → (held : Option PairsParts) → Type 0
SameDoes split budget status input output err held = Does max_both nowhere (Silent (ComparesSheets split budget)) (SameRefuses split) status input output err held
