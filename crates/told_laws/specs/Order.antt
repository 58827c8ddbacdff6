-- What it means that a couple of members is told with an example: the order of its two pairs counts there.
use Rattle.std.specs.Prelude.{◌≡◌, ℕ, List, []}
use Rattle.std.specs.List.{Contains}
use Rattle.css_model.specs.declared.example.Example.{Example}
use Rattle.css_model.specs.declared.sheet.DeclItem.{DeclItem}
use Rattle.css_model.specs.declared.sheet.SelItem.{SelItem}
use Rattle.overlap.specs.PairsParts.{PairsParts}
use Rattle.overlap.specs.Remembered.{IsTrueList}
use Rattle.sheet_members.specs.Compared.{Common}
use Rattle.sheet_members.specs.Occurrences.{Paired}
use Rattle.turned_members.specs.declared.verdict.Verdict.TheVariants.{Meet}
use Rattle.turned_members.specs.Telling.{AreTold, Told}
use Rattle.turned_members.specs.Turned.{turned}
use Rattle.why_text.specs.Laws.{ShowsOrder}

-- a declaration with its normal value
abbrev pub with_value : DeclItem → (text : List ℕ) → DeclItem
with_value d text = record { decl = record { name = d.decl.name; value = text; important = d.decl.important }; name = d.name; value = d.value }

-- By true answers the example of a couple that is told shows that the order of its pairs counts, with their normal values: of the two
-- alone the later one wins, whichever it is, and they differ.
abbrev pub ToldCouplesShowOrder : Type 0
ToldCouplesShowOrder = (pairs : PairsParts) (limit : ℕ) (commons : List Common) (told : List Told) → ∥ IsTrueList pairs ∥₁ → AreTold pairs.answers limit [] (turned commons) told →
    (t : Told) (e : Example) (s s' : SelItem) (d d' : DeclItem) → Contains told t → t.verdict ≡ Meet e →
    t.couple.first.mine.occurrence.part ≡ Paired s d → t.couple.second.mine.occurrence.part ≡ Paired s' d' →
    ∥ ShowsOrder s (with_value d t.couple.first.mine.occurrence.text) s' (with_value d' t.couple.second.mine.occurrence.text) e ∥₁
