-- A true list with one answer more, and what such a list says.
use Rattle.std.proofs.Common.{◌≡◌, ℕ, zero, suc, ◌++◌, List, [], ◌∷◌, Result, Ok, Err, OnOk, OnErr, IfOk, Option, Some, slice_get, length, refl, sym, ap, subst, ◌∙◌, arith}
use Rattle.std.proofs.Math.Logic.{∥∥₁_map}
use Rattle.std.specs.List.{All, AllPairs}
use Rattle.std.proofs.lemmas.List.Elements.{All-append, All-cons, All-head, All-nil, All-tail, Contains-append_right}
use Rattle.cnf.specs.Cnf.{Cnf}
use Rattle.cnf.specs.declared.lit.Lit.{Lit}
use Rattle.css_model.specs.Documents.SelectorParts.{SelectorParts}
use Rattle.overlap.specs.Answers.{IsLogOf, IsTrueAnswer}
use Rattle.overlap.specs.declared.answer.Answer.{Answer}
use Rattle.overlap.specs.PairsParts.{Answered, PairsParts}
use Rattle.overlap.specs.Remembered.{IsHeldWithLog, IsOfOther, IsTrueList, IsUnknown, StandsAt}

abbrev entry : SelectorParts → SelectorParts → Answer → Answered
entry x y answer = record { left = x; right = y; answer = answer }

pairs_more : {X : Type 0} (R : X → X → Type 0) (xs : List X) (x : X) → AllPairs R xs → All (λ y. R y x) xs → AllPairs R (xs ++ x ∷ [])
pairs_more R [] x h k i j d l m = absurd (omega arith)
pairs_more R (y ∷ ys) x h k zero zero d l m = absurd (omega arith)
pairs_more R (y ∷ ys) x h k (suc i) zero d l m = absurd (omega arith)
pairs_more R (y ∷ ys) x h k zero (suc j) d l m =
    All-append (R y) ys (x ∷ []) (λ n e below. h zero (suc n) e (omega arith) (omega arith)) (All-cons (R y) x [] (All-head (λ z. R z x) y ys k) (All-nil (R y))) j d (omega arith)
pairs_more R (y ∷ ys) x h k (suc i) (suc j) d l m =
    pairs_more R ys x (λ n o e low high. h (suc n) (suc o) e (omega arith) (omega arith)) (All-tail (λ z. R z x) y ys k) i j d (omega arith) (omega arith)

pub more_true : (budget : ℕ) (answers : List Answered) (x y : SelectorParts) (answer : Answer) → IsUnknown answers x y → IsTrueAnswer x y budget answer →
    ∥ IsTrueList (record { budget = budget; answers = answers }) ∥₁ → ∥ IsTrueList (record { budget = budget; answers = answers ++ entry x y answer ∷ [] }) ∥₁
more_true budget answers x y answer unknown is h = ∥∥₁_map h (λ t. record {
  true_answers = All-append (λ e. IsTrueAnswer e.left e.right budget e.answer) answers (entry x y answer ∷ []) t.true_answers
      (All-cons (λ e. IsTrueAnswer e.left e.right budget e.answer) (entry x y answer) [] is (All-nil (λ e. IsTrueAnswer e.left e.right budget e.answer)));
  once = pairs_more (λ e f. IsOfOther e.left e.right f) answers (entry x y answer) t.once (λ k d l (e, f). unknown k d l (sym e, sym f));
})

-- as it stands after an attempt to add it
pub kept_or_more : {A E : Type 0} (r : Result A E) (budget : ℕ) (old new : List Answered) (x y : SelectorParts) (answer : Answer) → OnOk r (new ≡ old ++ entry x y answer ∷ []) → OnErr r (new ≡ old) →
    IsUnknown old x y → IsTrueAnswer x y budget answer → ∥ IsTrueList (record { budget = budget; answers = old }) ∥₁ → ∥ IsTrueList (record { budget = budget; answers = new }) ∥₁
kept_or_more (Ok a) budget old new x y answer ok err unknown is h =
    subst (λ (answers : List Answered). ∥ IsTrueList (record { budget = budget; answers = answers }) ∥₁) (sym ok) (more_true budget old x y answer unknown is h)
kept_or_more (Err a) budget old new x y answer ok err unknown is h =
    subst (λ (answers : List Answered). ∥ IsTrueList (record { budget = budget; answers = answers }) ∥₁) (sym err) h

-- the answer that is added stands last
last_at : (answers : List Answered) (e : Answered) → slice_get (answers ++ e ∷ []) (length answers) ≡ Some e
last_at [] e = refl
last_at (a ∷ answers) e = last_at answers e

pub stands_last : {E : Type 0} (r : Result ℕ E) (old new : PairsParts) (x y : SelectorParts) (answer : Answer) → IfOk r (λ at. at ≡ length old.answers) →
    OnOk r (new ≡ record { budget = old.budget; answers = old.answers ++ entry x y answer ∷ [] }) → IfOk r (λ at. StandsAt new.answers x y (Some at))
stands_last (Ok at) old new x y answer place is = (
  entry x y answer,
  ap (λ (p : PairsParts). slice_get p.answers at) is ∙ ap (λ (n : ℕ). slice_get (old.answers ++ entry x y answer ∷ []) n) place ∙ last_at old.answers (entry x y answer),
  refl,
  refl,
)
stands_last (Err e) old new x y answer place is = is

-- it is held, with its log
pub held_with_log : (old new : PairsParts) (x y : SelectorParts) (answer : Answer) (log : Option (Cnf × List (List Lit))) →
    new ≡ record { budget = old.budget; answers = old.answers ++ entry x y answer ∷ [] } → IsLogOf x y old.budget answer log → IsHeldWithLog new x y log
held_with_log old new x y answer log is h =
    subst (λ (p : PairsParts). IsHeldWithLog p x y log) (sym is)
    (answer, Contains-append_right old.answers (entry x y answer ∷ []) (entry x y answer) (zero, omega arith, refl), h)
