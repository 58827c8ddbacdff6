-- What the true answers that are held show.
use Rattle.std.proofs.Common.{◌≡◌, inl, inr, ℕ, Bool, true, false, nat_lt}
use Rattle.std.proofs.Math.Logic.{∥∥₁_map}
use Rattle.std.proofs.lemmas.List.Elements.{All-contains}
use Rattle.std.specs.Bool.{MatchBool}
use Rattle.css_model.specs.declared.example.Example.{Example}
use Rattle.css_model.specs.Documents.Matching.{same_pseudo}
use Rattle.css_model.specs.Documents.SelectorParts.{SelectorParts}
use Rattle.css_model.specs.Sheets.Limits.{max_stepped}
use Rattle.shape_laws.specs.Document.Laws.{ShowsMeeting}
use Rattle.overlap.specs.Answers.{IsFewAnswer, IsTrueAnswer, pair_stepped, too_many_stepped}
use Rattle.overlap.specs.Combined.{IsEvidence}
use Rattle.overlap.specs.PairsParts.{Answered, PairsParts}
use Rattle.overlap.specs.Remembered.{IsAnswered, IsTrueList}
use Rattle.overlap.specs.declared.answer.Answer.TheVariants.{Apart, Meet, Outside}

evidence : (x y : SelectorParts) (budget : ℕ) (e : Example) → IsTrueAnswer x y budget (Meet e) → IsEvidence e x y
evidence x y budget e h = by (same_pseudo x.pseudo y.pseudo) (nat_lt max_stepped (pair_stepped x y)) h
  where
    by : (p q : Bool) → MatchBool p (MatchBool q (Meet e ≡ Outside too_many_stepped (pair_stepped x y)) (IsFewAnswer x y budget (Meet e))) (Meet e ≡ Apart) → IsEvidence e x y
    by true true is = absurd (let bad : ⊥ = cc in bad)
    by true false (inl lacking) = absurd (let bad : ⊥ = let is = lacking.1 in cc in bad)
    by true false (inr (have, decided)) = decided.0
    by false q is = absurd (let bad : ⊥ = cc in bad)

-- an example that is held shows that the selectors meet
pub meeting_shown : (pairs : PairsParts) (x y : SelectorParts) (e : Example) → ∥ IsTrueList pairs ∥₁ → IsAnswered pairs.answers x y (Meet e) → ∥ ShowsMeeting x y e ∥₁
meeting_shown pairs x y e all_true held =
    ∥∥₁_map all_true (λ t. (evidence x y pairs.budget e
    (All-contains (λ (a : Answered). IsTrueAnswer a.left a.right pairs.budget a.answer) pairs.answers (record { left = x; right = y; answer = Meet e }) t.true_answers held)).0)
