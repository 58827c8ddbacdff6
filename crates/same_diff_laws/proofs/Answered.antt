-- What is answered for selectors that are apart: that they are, or that the budget was spent.
use Rattle.std.proofs.Common.{◌≡◌, inl, inr, ℕ, nat_lt, Bool, true, false, sym, ◌∙◌}
use Rattle.std.proofs.Math.Logic.{∥∥₁_elim}
use Rattle.std.proofs.lemmas.Bool.{true≢false}
use Rattle.std.proofs.lemmas.List.Elements.{All-contains}
use Rattle.std.specs.Bool.{MatchBool}
use Rattle.compound_fit.specs.Attributes.{attribute_tests}
use Rattle.compound_fit.specs.Fitting.{SpacesAreLeft}
use Rattle.compound_fit.specs.Table.{groups}
use Rattle.css_model.specs.declared.example.Example.{Example}
use Rattle.css_model.specs.Documents.Matching.{same_pseudo}
use Rattle.css_model.specs.Documents.RunDocuments.{expand, target_of}
use Rattle.css_model.specs.Documents.SelectorParts.{SelectorParts}
use Rattle.css_model.specs.Sheets.Limits.{max_stepped}
use Rattle.overlap.specs.Answers.{IsFewAnswer, IsTrueAnswer, pair_stepped, too_many_stepped}
use Rattle.overlap.specs.declared.answer.Answer.{Answer}
use Rattle.overlap.specs.declared.answer.Answer.TheVariants.{Apart, Meet, Outside}
use Rattle.overlap.specs.Laws.{ApartSelectorsDoNotMeet}
use Rattle.overlap.specs.PairsParts.{Answered, PairsParts}
use Rattle.overlap.specs.Remembered.{IsAnswered, IsTrueList}
use Rattle.why_text.proofs.ForCallers.{meeting_shown}

-- an answer that is among true ones is true
is_true : (pairs : PairsParts) (x y : SelectorParts) (answer : Answer) → IsTrueList pairs → IsAnswered pairs.answers x y answer → IsTrueAnswer x y pairs.budget answer
is_true pairs x y answer t held = All-contains (λ (a : Answered). IsTrueAnswer a.left a.right pairs.budget a.answer) pairs.answers (record { left = x; right = y; answer = answer }) t.true_answers held

-- what is answered to be apart is never outside
not_both : (x y : SelectorParts) (budget other reason number : ℕ) → IsTrueAnswer x y budget Apart → IsTrueAnswer x y other (Outside reason number) → ⊥
not_both x y budget other reason number h g = by (same_pseudo x.pseudo y.pseudo) (nat_lt max_stepped (pair_stepped x y)) h g
  where
    by : (p q : Bool) → MatchBool p (MatchBool q (Apart ≡ Outside too_many_stepped (pair_stepped x y)) (IsFewAnswer x y budget Apart)) (Apart ≡ Apart) →
        MatchBool p (MatchBool q (Outside reason number ≡ Outside too_many_stepped (pair_stepped x y)) (IsFewAnswer x y other (Outside reason number))) (Outside reason number ≡ Apart) → ⊥
    by true true is also = cc
    by true false (inl lacking) also = let is = lacking.1 in cc
    by true false (inr (have, decided)) (inl (lack, is)) =
        true≢false (sym (lack.2).2 ∙ All-contains (λ g. SpacesAreLeft (attribute_tests g)) (groups x.chain y.chain) lack.0 have lack.1 (lack.2).0 (lack.2).1)
    by true false (inr (have, decided)) (inr (too, outside)) = outside
    by false q is also = cc

module _ (law : ApartSelectorsDoNotMeet) (pairs others : PairsParts) (true_list : ∥ IsTrueList pairs ∥₁) (all_true : ∥ IsTrueList others ∥₁) where
  pub never_meet : (x y : SelectorParts) (e : Example) → IsAnswered pairs.answers x y Apart → IsAnswered others.answers x y (Meet e) → ⊥
  never_meet x y e h g =
      ∥∥₁_elim (meeting_shown others x y e all_true g) (λ a b. absurd a)
      (λ m. law pairs x y true_list h (record { doc = expand e; target = target_of e; legal = m.legal; first = m.left; second = m.right }))

  pub never_outside : (x y : SelectorParts) (reason number : ℕ) → IsAnswered pairs.answers x y Apart → IsAnswered others.answers x y (Outside reason number) → ⊥
  never_outside x y reason number h g =
      ∥∥₁_elim true_list (λ a b. absurd a) (λ t. ∥∥₁_elim all_true (λ a b. absurd a) (λ u.
      not_both x y pairs.budget others.budget reason number (is_true pairs x y Apart t h) (is_true others x y (Outside reason number) u g)))
