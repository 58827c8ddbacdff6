-- What `same` and `diff` write of the same two sheets.
use Rattle.std.specs.Prelude.{◌≡◌, ℕ, List, codes}
use Rattle.cnf.specs.declared.lit.Lit.{Lit}
use Rattle.css_model.specs.Documents.SelectorParts.{SelectorParts}
use Rattle.diff_text.specs.DiffTexts as diff
use Rattle.overlap.specs.declared.answer.Answer.TheVariants.{Apart, Spent}
use Rattle.overlap.specs.PairsParts.{Answered, PairsParts}
use Rattle.overlap.specs.Remembered.{IsAnswered}
use Rattle.same_text.specs.SameTexts as same

-- for no two selectors that are answered to be apart the budget is spent in other answers (own)
abbrev pub SpendsNoMore : (answers : List Answered) → (others : List Answered) → Type 0
SpendsNoMore answers others = (x y : SelectorParts) (ledger : List (List Lit)) → IsAnswered answers x y Apart → IsAnswered others x y (Spent ledger) → ⊥

-- Where `same` is told of two sheets, `diff` tells `same` of them too, whatever its limit, unless its budget is spent for two
-- selectors that were answered to be apart.
abbrev pub SameTextsDifferInNothing : Type 0
SameTextsDifferInNothing = (source other : List ℕ) (pairs : PairsParts) (text : List ℕ) → same.AreCompared source other pairs text → text ≡ codes "same\n" →
    (limit : ℕ) (others : PairsParts) (lines : List ℕ) → diff.AreCompared source other limit others lines → SpendsNoMore pairs.answers others.answers → lines ≡ codes "same\n"
