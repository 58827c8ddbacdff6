use Rattle.std.proofs.Common.{◌<◌, ◌≤◌, ◌↔◌, ℕ, Bool, true, false, IsTrue, MatchBool, refl, arith}
use Rattle.std.proofs.lemmas.Bool.{false≢true}
use Rattle.cnf.proofs.ComparisonLemmas.{at_least-facts}
use Rattle.cnf.proofs.RangeLemmas.{at_least-below}
use Rattle.cnf.proofs.SizeLemmas.{at_least-size}
use Rattle.cnf.proofs.laws.at_least_compares_with_the_bound.Goals as goal

exactly : (b : Bool) (bound n : ℕ) → MatchBool b (bound ≤ n) (n < bound) → IsTrue b ↔ (bound ≤ n)
exactly true bound n h = (λ _. h, λ _. refl)
exactly false bound n h = (λ t. absurd (false≢true t), λ le. absurd (omega arith))

pub returns : goal.returns
returns c = record {
  extends = λ f x bound r h. (at_least-facts f x bound r h).extends;
  in_range = at_least-below;
  means = λ f x bound r h vs s. exactly _ _ _ ((at_least-facts f x bound r h).means vs s);
  size = at_least-size;
}
