-- Remembered answers (own).
use Rattle.std.specs.Prelude.{◌≡◌, ℕ, List, ◌++◌, slice_get, Option, Some, None}
use Rattle.std.specs.Borrow.{Bor}
use Rattle.std.specs.List.{All, AllPairs, Contains}
use Rattle.cnf.specs.Cnf.{Cnf}
use Rattle.cnf.specs.declared.lit.Lit.{Lit}
use Rattle.css_model.specs.Documents.SelectorParts.{SelectorParts}
use Rattle.overlap.specs.Answers.{IsLogOf, IsTrueAnswer}
use Rattle.overlap.specs.declared.answer.Answer.{Answer}
use Rattle.overlap.specs.PairsParts.{Answered, PairsParts}

-- an answer for another ordered pair
abbrev pub IsOfOther : SelectorParts → SelectorParts → Answered → Type 0
IsOfOther x y e = (e.left ≡ x) × (e.right ≡ y) → ⊥

-- A true list of answers for a budget: each is a true answer, and no ordered pair stands twice.
pub record IsTrueList (p : PairsParts) : Type 0 where
  pub true_answers : All (λ e. IsTrueAnswer e.left e.right p.budget e.answer) p.answers
  pub once : AllPairs (λ e f. IsOfOther e.left e.right f) p.answers

-- no answer is held for the ordered pair
abbrev pub IsUnknown : List Answered → SelectorParts → SelectorParts → Type 0
IsUnknown answers x y = All (IsOfOther x y) answers

-- this answer is held for it
abbrev pub IsAnswered : List Answered → SelectorParts → SelectorParts → Answer → Type 0
IsAnswered answers x y answer = Contains answers (record { left = x; right = y; answer = answer })

-- some answer is
abbrev pub IsHeld : List Answered → SelectorParts → SelectorParts → Type 0
IsHeld answers x y = (answer : Answer) × IsAnswered answers x y answer

-- some answer is, and this is what is logged of it
abbrev pub IsHeldWithLog : PairsParts → SelectorParts → SelectorParts → Option (Cnf × List (List Lit)) → Type 0
IsHeldWithLog p x y log = (answer : Answer) × IsAnswered p.answers x y answer × IsLogOf x y p.budget answer log

-- what is held of the ordered pair
abbrev pub Known : List Answered → SelectorParts → SelectorParts → Option (Bor Answer) → Type 0
Known answers x y None = IsUnknown answers x y
Known answers x y (Some answer) = IsAnswered answers x y answer.now

-- where the answer for it stands
abbrev pub StandsAt : List Answered → SelectorParts → SelectorParts → Option ℕ → Type 0
StandsAt answers x y None = IsUnknown answers x y
StandsAt answers x y (Some at) = (e : Answered) × (slice_get answers at ≡ Some e) × (e.left ≡ x) × (e.right ≡ y)

-- What is held once the pair was asked for: the earlier answers, and behind them at most one, for this pair.
pub record Asks (old new : PairsParts) (x y : SelectorParts) : Type 0 where
  pub budget : new.budget ≡ old.budget
  pub more : List Answered
  pub is : new.answers ≡ old.answers ++ more
  pub only : All (λ e. (e.left ≡ x) × (e.right ≡ y)) more
