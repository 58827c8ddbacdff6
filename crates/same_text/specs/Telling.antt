-- The lines of what is found in two sheets (own).
use Rattle.std.specs.Prelude.{◌≡◌, ℕ, ◌+◌, ◌==◌, if◌then◌else◌, List, ◌++◌, codes, decimal}
use Rattle.css_model.specs.declared.example.Example.{Example}
use Rattle.css_model.specs.declared.sheet.Item.{Item}
use Rattle.doc_text.specs.DocText.{doc_text}
use Rattle.sheet_order.specs.declared.places.PairPlace.{PairPlace}
use Rattle.sheet_same.specs.declared.compared.Compared.{Compared}
use Rattle.sheet_same.specs.declared.compared.Compared.TheVariants.{Same, Missing, Extra, KeptItem, Reversed, Unsure}
use Rattle.why_text.specs.PairTexts.{IsPairText, IsPlace}

-- ---- Lines

-- a number with the end of its line
abbrev pub number_line : ℕ → List ℕ
number_line n = decimal n ++ codes "\n"

-- a text with a pair of a sheet as a rule behind it, and the end of the line
pub record HasPairLine (source : List ℕ) (items : List Item) (place : PairPlace) (old new : List ℕ) : Type 0 where
  pub pair : List ℕ
  pub pair_is : IsPairText source items place pair
  pub text_is : new ≡ old ++ pair ++ codes "\n"

-- the lines of two pairs of a sheet in another order, and of a document
pub record IsReversedText (source : List ℕ) (items : List Item) (p q : PairPlace) (example : Example) (text : List ℕ) : Type 0 where
  pub first : List ℕ
  pub second : List ℕ
  pub first_is : HasPairLine source items p (codes "reversed\n") first
  pub second_is : HasPairLine source items q first second
  pub text_is : text ≡ second ++ doc_text example

-- the line of a reason that it is not known whether two selectors meet; 0 is that the budget was spent
abbrev pub unsure_line : ℕ → List ℕ
unsure_line reason = if reason == 0 then codes "unsure spent\n" else codes "unsure " ++ number_line reason

-- ---- What is found

-- The lines of what is found in two sheets. A missing pair and those in another order are printed from the first sheet, one that is
-- there besides from the second one. Kept items are counted from 0, and shown from 1.
abbrev pub IsComparedText : (source : List ℕ) → List Item → (other : List ℕ) → List Item → Compared → (text : List ℕ) → Type 0
IsComparedText source s other t Same text = text ≡ codes "same\n"
IsComparedText source s other t (Missing place) text = HasPairLine source s place (codes "missing ") text
IsComparedText source s other t (Extra place) text = HasPairLine other t place (codes "extra ") text
IsComparedText source s other t (KeptItem number) text = text ≡ codes "kept " ++ number_line (number + 1)
IsComparedText source s other t (Reversed p q example) text = IsReversedText source s p q example text
IsComparedText source s other t (Unsure reason) text = text ≡ unsure_line reason

-- the pairs that are told are pairs of their sheets
abbrev pub HasPlaces : List Item → List Item → Compared → Type 0
HasPlaces s t Same = Unit {0}
HasPlaces s t (Missing place) = IsPlace s place
HasPlaces s t (Extra place) = IsPlace t place
HasPlaces s t (KeptItem number) = Unit {0}
HasPlaces s t (Reversed p q example) = IsPlace s p × IsPlace s q
HasPlaces s t (Unsure reason) = Unit {0}
