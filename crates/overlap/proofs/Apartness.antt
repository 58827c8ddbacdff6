-- Selectors that are called apart do not meet.
use Rattle.std.proofs.Common.{◌≡◌, Option, inl, inr, ℕ, Bool, true, false, sym, subst, ◌∙◌}
use Rattle.std.specs.Prelude.{nat_lt}
use Rattle.std.specs.Bool.{MatchBool}
use Rattle.std.proofs.Math.Logic.{∥∥₁_elim}
use Rattle.css_model.specs.Cascade.Order.{Meet as TheyMeet}
use Rattle.css_model.specs.declared.selector.Pseudo.{Pseudo}
use Rattle.css_model.specs.Documents.Matching.{same_pseudo}
use Rattle.css_model.specs.Documents.SelectorParts.{SelectorParts}
use Rattle.css_model.specs.Sheets.Limits.{max_stepped}
use Rattle.overlap.specs.Answers.{IsAlikeAnswer, IsFewAnswer, IsTrueAnswer, pair_stepped, too_many_stepped}
use Rattle.overlap.specs.declared.answer.Answer.TheVariants.{Apart, Outside}
use Rattle.overlap.specs.Laws.{ApartSelectorsDoNotMeet}
use Rattle.overlap.specs.PairsParts.{Answered}
use Rattle.overlap.specs.Remembered.{IsTrueList}
use Rattle.overlap.proofs.Deciding.{same_self}

not_outside : (r n : ℕ) → Apart ≡ Outside r n → ⊥
not_outside r n e = cc

few_apart : (x y : SelectorParts) (budget : ℕ) → IsFewAnswer x y budget Apart → TheyMeet x y → ⊥
few_apart x y budget (inl (lack, e)) meet = not_outside 12 0 e
few_apart x y budget (inr (have, apart)) meet = apart meet

pub true_apart : (x y : SelectorParts) (budget : ℕ) → IsTrueAnswer x y budget Apart → TheyMeet x y → ⊥
true_apart x y budget h meet = alike (subst (λ (b : Bool). MatchBool b (IsAlikeAnswer x y budget Apart) (Apart ≡ Apart)) same h)
  where
    same : same_pseudo x.pseudo y.pseudo ≡ true
    same = subst (λ (p : Option Pseudo). same_pseudo x.pseudo p ≡ true) (sym meet.first.pseudo ∙ meet.second.pseudo) (same_self x.pseudo)

    alike : IsAlikeAnswer x y budget Apart → ⊥
    alike k = by (nat_lt max_stepped (pair_stepped x y)) k
      where
        by : (b : Bool) → MatchBool b (Apart ≡ Outside too_many_stepped (pair_stepped x y)) (IsFewAnswer x y budget Apart) → ⊥
        by true e = not_outside too_many_stepped (pair_stepped x y) e
        by false few = few_apart x y budget few meet

pub apart_selectors_do_not_meet : ApartSelectorsDoNotMeet
apart_selectors_do_not_meet pairs x y h (k, l, e) meet = ∥∥₁_elim h (λ a b. absurd a) (λ t. by t)
  where
    by : IsTrueList pairs → ⊥
    by t = true_apart x y pairs.budget
        (subst (λ (a : Answered). IsTrueAnswer a.left a.right pairs.budget a.answer) e (t.true_answers k (record { left = x; right = y; answer = Apart }) l)) meet
