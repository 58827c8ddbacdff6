-- What follows from the text that `diff` wrote (own).
use Rattle.std.specs.Prelude.{◌≡◌, ◌≢◌, ℕ, Bool, true, List, ◌++◌, take, drop, Option, Some}
use Rattle.std.specs.List.{Contains}
use Rattle.css_model.specs.declared.example.Example.{Example}
use Rattle.css_model.specs.declared.sheet.DeclItem.{DeclItem}
use Rattle.css_model.specs.declared.sheet.Item.{Item}
use Rattle.css_model.specs.declared.sheet.SelItem.{SelItem}
use Rattle.css_model.specs.Cascade.Winner.{Declared, Understood}
use Rattle.css_model.specs.Documents.Document.{Document, IsLegal, Target}
use Rattle.diff_laws.specs.Same.{AreSame}
use Rattle.diff_laws.specs.Scenes.{IsSceneWhere, normal_winner_in}
use Rattle.diff_text.specs.DiffTexts.{IsDiffText, sides_of}
use Rattle.diff_text.specs.Lines.{is_reversed, told_word}
use Rattle.opened_laws.specs.Media.Scenes.{KeptScene}
use Rattle.order_laws.specs.Keeping.{AreRelated}
use Rattle.overlap.specs.PairsParts.{PairsParts}
use Rattle.sheet_members.specs.Labels.{Label}
use Rattle.sheet_members.specs.Occurrences.{Paired, occurrences}
use Rattle.told_laws.specs.Order.{with_value}
use Rattle.told_laws.specs.Reversed.{winner_under}
use Rattle.turned_members.specs.declared.verdict.Verdict.TheVariants.{Meet}
use Rattle.turned_members.specs.Telling.{Told}
use Rattle.turned_members.specs.Turned.{Couple}
use Rattle.why_text.specs.Laws.{ShowsOrder}

-- ---- Where nothing is found

-- Two sheets have the same winners over normal values: in each legal document, for each target, of all understood declarations that
-- compete (CSS Cascading 3, section 6), and in each two scenes in which blocks with one normal head hold together and alike kept
-- items apply the same.
abbrev pub WinAlike : (source : List ℕ) (s : List Item) (other : List ℕ) (t : List Item) → Type 0
WinAlike source s other t = (doc : Document) (target : Target) (us : List Understood) (holds : List ℕ → Bool) (means : Label → List Declared) (scene scene' : List KeptScene) →
    IsLegal doc → AreRelated us → IsSceneWhere holds means source s scene → IsSceneWhere holds means other t scene' →
    normal_winner_in doc target source s scene us ≡ normal_winner_in doc target other t scene' us

-- Nothing is found in the sheet of the first bytes, so many, and that of the others, and they have the same winners.
pub record AreAlike (split : ℕ) (read : List ℕ) : Type 0 where
  pub first : List Item
  pub second : List Item
  pub same : AreSame (take split read) first (drop split read) second
  pub alike : WinAlike (take split read) first (drop split read) second

-- ---- Where something is found

-- The example of each couple that is told shows that the order of its two pairs counts, with their normal values: of the two alone
-- the later one wins, whichever it is, and they differ.
abbrev pub EachShowsOrder : List Told → Type 0
EachShowsOrder told = (one : Told) (x : Example) (s s' : SelItem) (d d' : DeclItem) → Contains told one → one.verdict ≡ Meet x →
    one.couple.first.mine.occurrence.part ≡ Paired s d → one.couple.second.mine.occurrence.part ≡ Paired s' d' →
    ∥ ShowsOrder s (with_value d one.couple.first.mine.occurrence.text) s' (with_value d' one.couple.second.mine.occurrence.text) x ∥₁

-- At an example two whole sheets have different winners over normal values, of all values that either sheet gives the properties of a
-- couple, in the scene in which exactly the blocks of the couple hold and kept items apply nothing.
abbrev pub WinOtherwise : Example → Couple → (source : List ℕ) (s : List Item) (other : List ℕ) (t : List Item) → Type 0
WinOtherwise x c source s other t =
    winner_under x c source s (occurrences source s ++ occurrences other t) ≢ winner_under x c other t (occurrences source s ++ occurrences other t)

-- so they have at the example of each couple that is told as `reversed`
abbrev pub EachReversedDiffers : (source : List ℕ) (s : List Item) (other : List ℕ) (t : List Item) → List Told → Type 0
EachReversedDiffers source s other t told = (one : Told) → Contains told one → is_reversed (told_word (sides_of source s other t) one) ≡ true →
    (x : Example) × (one.verdict ≡ Meet x) × WinOtherwise x one.couple source s other t

-- The text tells what is found in two sheets, and what it tells of their order is true.
pub record TellsTrueOrder (split limit : ℕ) (read text : List ℕ) (held : Option PairsParts) : Type 0 where
  pub pairs : PairsParts
  pub held_is : held ≡ Some pairs
  pub tells : IsDiffText read split limit pairs text
  pub shows : EachShowsOrder tells.compared.tells.told
  pub differ : EachReversedDiffers (take split read) tells.compared.first (drop split read) tells.compared.second tells.compared.tells.told
