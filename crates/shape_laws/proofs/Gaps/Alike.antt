-- Numbers of siblings that no test tells apart.
use Rattle.std.proofs.Common.{Bool, List, Some, arith, false, refl, subst, suc, sym, true, ℕ, ◌+◌, ◌<◌, ◌↔◌, ◌≡◌, ◌≤◌}
use Rattle.std.specs.Bool.{MatchBool}
use Rattle.std.specs.Prelude.{Contains, List, ℕ, ◌+◌, ◌↔◌, ◌≡◌, ◌≤◌}
use Rattle.css_model.specs.Documents.Matching.{IsNth}
use Rattle.css_model.specs.declared.position.AnB.{AnB}
use Rattle.css_model.specs.declared.selector.Simple.{Simple}
use Rattle.css_model.specs.declared.selector.Test.{Test}
use Rattle.css_model.specs.declared.selector.Test.TheVariants.{Any, Attr, Empty, Id, Kind, Nth, NthLast, OnlyChild, Root, State}
use Rattle.slot_plan.specs.Parts.{part_of}
use Rattle.slot_plan.specs.Positions.{PositionFits, PositionHolds}

-- no part of a list tells the two counts apart, nor whether they are 0
pub record Alike (parts : List AnB) (m n : ℕ) : Type 0 where
  pub zeros : (m ≡ 0) ↔ (n ≡ 0)
  pub members : (x : AnB) → Contains parts x → (k : ℕ) → 1 ≤ k → IsNth x (m + k) ↔ IsNth x (n + k)

-- a way to make gaps smaller that no part tells
pub record Reduces (parts : List AnB) (bound : ℕ) (r : ℕ → ℕ) : Type 0 where
  pub members : (x : AnB) → Contains parts x → (gap k : ℕ) → 1 ≤ k → IsNth x (gap + k) ↔ IsNth x (r gap + k)
  pub zeros : (gap : ℕ) → (r gap ≡ 0) ↔ (gap ≡ 0)
  pub below : (gap : ℕ) → r gap < bound

-- equivalences, one after the other
both_ways : {A B C : Type 0} → A ↔ B → B ↔ C → A ↔ C
both_ways f g = (λ a. g.0 (f.0 a), λ c. f.1 (g.1 c))

-- equal positions
same_nth : (x : AnB) (m n : ℕ) → m ≡ n → IsNth x m ↔ IsNth x n
same_nth x m n e = (λ h. subst (IsNth x) e h, λ h. subst (IsNth x) (sym e) h)

-- a gap and what it is reduced to
pub gap_alike : (parts : List AnB) (bound : ℕ) (r : ℕ → ℕ) → Reduces parts bound r → (gap : ℕ) → Alike parts gap (r gap)
gap_alike parts bound r red gap = record { zeros = ((red.zeros gap).1, (red.zeros gap).0); members = λ x in' k h. red.members x in' gap k h }

-- a count with one more slot and a gap
pub more_alike : (parts : List AnB) (bound : ℕ) (r : ℕ → ℕ) → Reduces parts bound r → (m n gap : ℕ) → Alike parts m n → Alike parts (m + suc gap) (n + suc (r gap))
more_alike parts bound r red m n gap like = record {
  zeros = (λ h. absurd (omega arith), λ h. absurd (omega arith));
  members = λ x in' k h.
      both_ways (same_nth x (m + suc gap + k) (gap + (m + 1 + k)) (omega arith))
      (both_ways (red.members x in' gap (m + 1 + k) (omega arith))
      (both_ways (same_nth x (r gap + (m + 1 + k)) (m + (1 + r gap + k)) (omega arith))
      (both_ways (like.members x in' (1 + r gap + k) (omega arith))
      (same_nth x (n + (1 + r gap + k)) (n + suc (r gap) + k) (omega arith)))));
}

-- counts with one more slot directly beside
pub next_alike : (parts : List AnB) (m n : ℕ) → Alike parts m n → Alike parts (suc m) (suc n)
next_alike parts m n like = record {
  zeros = (λ h. absurd (omega arith), λ h. absurd (omega arith));
  members = λ x in' k h.
      both_ways (same_nth x (suc m + k) (m + (1 + k)) (omega arith))
      (both_ways (like.members x in' (1 + k) (omega arith))
      (same_nth x (n + (1 + k)) (suc n + k) (omega arith)));
}

-- a test on positions does not tell alike counts apart
same_position : (parts : List AnB) (r c : Bool) (b b' a a' : ℕ) (t : Test) → Alike parts b b' → Alike parts a a' → ((x : AnB) → part_of t ≡ Some x → Contains parts x) → PositionHolds r c b a t ↔ PositionHolds r c b' a' t
same_position parts true c b b' a a' (Nth x) lb la in' = (λ h. h, λ h. h)
same_position parts false c b b' a a' (Nth x) lb la in' = lb.members x (in' x refl) 1 (omega arith)
same_position parts true c b b' a a' (NthLast x) lb la in' = (λ h. h, λ h. h)
same_position parts false c b b' a a' (NthLast x) lb la in' = la.members x (in' x refl) 1 (omega arith)
same_position parts true c b b' a a' OnlyChild lb la in' = (λ h. h, λ h. h)
same_position parts false c b b' a a' OnlyChild lb la in' = (λ h. (lb.zeros.0 h.0, la.zeros.0 h.1), λ h. (lb.zeros.1 h.0, la.zeros.1 h.1))
same_position parts r c b b' a a' Root lb la in' = (λ h. h, λ h. h)
same_position parts r c b b' a a' Any lb la in' = (λ h. h, λ h. h)
same_position parts r c b b' a a' (Kind name) lb la in' = (λ h. h, λ h. h)
same_position parts r c b b' a a' (Id name) lb la in' = (λ h. h, λ h. h)
same_position parts r c b b' a a' (Attr test) lb la in' = (λ h. h, λ h. h)
same_position parts r c b b' a a' Empty lb la in' = (λ h. h, λ h. h)
same_position parts r c b b' a a' (State flag) lb la in' = (λ h. h, λ h. h)

-- nor does a simple selector
pub same_fit : (parts : List AnB) (r c : Bool) (b b' a a' : ℕ) (s : Simple) → Alike parts b b' → Alike parts a a' → ((x : AnB) → part_of s.test ≡ Some x → Contains parts x) → PositionFits r c b a s → PositionFits r c b' a' s
same_fit parts r c b b' a a' s lb la in' fits test = by s.negated (fits test)
  where
    same : PositionHolds r c b a s.test ↔ PositionHolds r c b' a' s.test
    same = same_position parts r c b b' a a' s.test lb la in'

    by : (n : Bool) → MatchBool n (PositionHolds r c b a s.test → ⊥) (PositionHolds r c b a s.test) → MatchBool n (PositionHolds r c b' a' s.test → ⊥) (PositionHolds r c b' a' s.test)
    by true no' = λ w. no' (same.1 w)
    by false yes' = same.0 yes'
