-- What it means what is told of two sheets.
use Rattle.std.specs.Prelude.{◌≡◌, ℕ, List, Option, Some, None, codes, slice_get}
use Rattle.css_model.specs.declared.example.Example.{Example}
use Rattle.css_model.specs.declared.sheet.DeclItem.{DeclItem}
use Rattle.css_model.specs.declared.sheet.Item.{Item}
use Rattle.css_model.specs.declared.sheet.SelItem.{SelItem}
use Rattle.media_groups.specs.declared.media.Media.{Media}
use Rattle.media_groups.specs.Opened.{opened_of}
use Rattle.overlap.specs.PairsParts.{PairsParts}
use Rattle.overlap.specs.Remembered.{IsTrueList}
use Rattle.same_laws.specs.Same.{AreSame}
use Rattle.same_text.specs.SameTexts.{AreCompared}
use Rattle.sheet_order.specs.declared.places.PairPlace.{PairPlace}
use Rattle.sheet_same.specs.declared.compared.Compared.TheVariants.{Reversed}
use Rattle.sheet_same.specs.Compared.{IsDifference}
use Rattle.why_text.specs.Laws.{ShowsOrder}
use Rattle.why_text.specs.PairTexts.{StandAt}

-- Two sheets of which `same` is told have the same winners in every legal document.
abbrev pub SameTextsWinAlike : Type 0
SameTextsWinAlike = (source other : List ℕ) (pairs : PairsParts) (text : List ℕ) (compared : AreCompared source other pairs text) → text ≡ codes "same\n" →
    AreSame source compared.first other compared.second

-- the items of a sheet, or of its opened block of this number
abbrev pub AreItemsOf : (source : List ℕ) → List Item → Option ℕ → List Item → Type 0
AreItemsOf source s None items = items ≡ s
AreItemsOf source s (Some number) items = (m : Media) × (slice_get (opened_of s source) number ≡ Some m) × (items ≡ m.sheet.items)

-- By true answers the example of two pairs that are found in another order shows that their order counts.
abbrev pub ReversedPairsShowOrder : Type 0
ReversedPairsShowOrder = (source : List ℕ) (s : List Item) (other : List ℕ) (t : List Item) (pairs : PairsParts) (p q : PairPlace) (example : Example) (body : Option ℕ) → ∥ IsTrueList pairs ∥₁ →
    IsDifference pairs.answers source s other t (record { compared = Reversed p q example; body = body }) →
    (items : List Item) → AreItemsOf source s body items →
    (x : SelItem) (d : DeclItem) (y : SelItem) (f : DeclItem) → StandAt items p x d → StandAt items q y f → ∥ ShowsOrder x d y f example ∥₁
