-- What is told of two sheets laid flat.
use Rattle.std.specs.Prelude.{◌≡◌, ℕ, List, []}
use Rattle.css_model.specs.declared.sheet.Item.{Item}
use Rattle.overlap.specs.PairsParts.{PairsParts}
use Rattle.overlap.specs.Remembered.{IsTrueList}
use Rattle.sheet_members.specs.Compared.{Compared, all_marked, compared_of}
use Rattle.sheet_members.specs.Members.{members_of}
use Rattle.sheet_members.specs.Occurrences.{Occurrence, occurrences}
use Rattle.turned_members.specs.Telling.{AreTold, Told}
use Rattle.turned_members.specs.Turned.{turned}
use Rattle.diff_text.specs.DiffTexts.{diff_text}
use Rattle.diff_text.specs.Lines.{Sides}

-- two sheets, with what occurs in the first one (own)
abbrev pub sides_with : (source : List ℕ) → List Occurrence → (other : List ℕ) → (t : List Item) → Sides
sides_with source os other t = record { text = source; occurrences = os; other = other; others = occurrences other t }

-- what is compared of two sheets in which these occur (own)
abbrev pub compared_in : Sides → Compared
compared_in x =
    compared_of (all_marked (members_of x.others) (members_of x.occurrences)) (all_marked (members_of x.occurrences) (members_of x.others))

-- The text tells what is found in them, as `Tells` says it of two sheets (own).
pub record TellsSides (x : Sides) (limit : ℕ) (pairs : PairsParts) (text : List ℕ) : Type 0 where
  pub all_true : ∥ IsTrueList pairs ∥₁
  pub told : List Told
  pub are_told : AreTold pairs.answers limit [] (turned (compared_in x).commons) told
  pub text_is : text ≡ diff_text x limit told (compared_in x)
