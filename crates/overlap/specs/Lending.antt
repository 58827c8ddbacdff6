-- How the answers stand once the one that was asked for is no longer looked at.
use Rattle.std.specs.Prelude.{Result, IfOk, ⊤}
use Rattle.std.specs.Borrow.{MutBor, Bor, Fml, follows_so}
use mathlib.Core.Option.{none}
use Rattle.css_model.specs.Documents.SelectorParts.{SelectorParts}
use Rattle.overlap.specs.contracts.pairs.Pairs.{the_row}
use Rattle.overlap.specs.declared.answer.Answer.{Answer}
use Rattle.overlap.specs.PairsParts.{PairsParts}
use Rattle.overlap.specs.Remembered.{Asks, IsAnswered, IsTrueList}

-- the pair was asked for, and the answer is the one that is held for it
abbrev pub EndsAsked : {E : Type 0} → MutBor PairsParts → SelectorParts → SelectorParts → Result (Bor Answer) E → Fml
EndsAsked s x y result =
    follows_so the_row the_row s.ghost_name none (λ _ _. ⊤)
    (λ v. Asks s.now v x y × ∥ IsTrueList v ∥₁ × IfOk result (λ answer. IsAnswered v.answers x y answer.now))
