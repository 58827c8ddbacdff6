-- What the code of the comparison keeps from one digit to the next.
use Rattle.std.proofs.Common.{◌≡◌, ◌+◌, ◌%◌, ◌/◌, ◌<◌, ◌≤◌, ℕ, Bool, true, false, eqb, leb, not, ◌*◌, ◌^◌, inl, inr, IsTrue, List, [], ◌∷◌, length, get_or, drop, Option, None, Some, refl, sym, ap, ◌∙◌, arith}
use Rattle.std.proofs.Math.Nat.{div-add-mod, mod-lt, div-eq_of_lt}
use Rattle.std.proofs.Math.Pow.{pow_mono}
use Rattle.std.proofs.lemmas.Bool.{cond-true, cond-false, cases_lt, cases_eq, lt-leb, le-leb, ne_eqb}
use Rattle.std.proofs.lemmas.List.{at_drop_more}
use Rattle.std.proofs.lemmas.Nat.{pow_pos}
use Rattle.cnf.specs.declared.lit.Lit.{Lit}
use Rattle.cnf.specs.Cnf.{Cnf}
use Rattle.cnf.specs.Gates.{with_false}
use Rattle.cnf.specs.Lits.{is_below}
use Rattle.cnf.specs.Numbers.{with_digit, with_compared_digit, with_comparison, with_found, with_at_least}
use Rattle.cnf.specs.Sums.{option_below}
use Rattle.cnf.proofs.GateLemmas.{and_gate-below, or_gate-below}
use Rattle.cnf.proofs.GrowLemmas.{compared_digit-grows, comparison-grows}

digit-below : (f : Cnf) (one : Bool) (digit below : Lit) → IsTrue (is_below (with_digit f one digit below).0.vars (with_digit f one digit below).1)
digit-below f true digit below = and_gate-below f (digit ∷ below ∷ [])
digit-below f false digit below = or_gate-below f digit below

pub compared_digit-below : (f : Cnf) (below : Option Lit) (digit : Lit) (one : Bool) → IsTrue (is_below f.vars digit) → IsTrue (option_below (with_compared_digit f below digit one).0.vars (with_compared_digit f below digit one).1)
compared_digit-below f None digit true h = h
compared_digit-below f None digit false h = refl
compared_digit-below f (Some below) digit one h = digit-below f one digit below

-- what the digits that are left make of the outcome so far
pub record ComparedSoFar (start : Cnf) (all : List Lit) (bound : ℕ) (f : Cnf) (below : Option Lit) (left : List Lit) (rest : ℕ) : Type 0 where
  pub outcome : with_comparison f below left rest ≡ with_comparison start None all bound
  pub in_range : IsTrue (option_below f.vars below)
  pub grows : start.vars ≤ f.vars

pub compared_room : (start f : Cnf) (all : List Lit) (bound : ℕ) (below : Option Lit) (rest k : ℕ) (d : Lit) (n : ℕ) → ComparedSoFar start all bound f below (drop k all) rest → k < length all → (with_comparison start None all bound).0.vars ≤ n → (with_compared_digit f below (get_or all k d) (eqb (rest % 2) 1)).0.vars ≤ n
compared_room start f all bound below rest k d n s b room =
    let next = with_compared_digit f below (get_or all k d) (eqb (rest % 2) 1) in
    let whole = at_drop_more (λ ls. (with_comparison f below ls rest).0.vars) all k d b in
    let more = comparison-grows next.0 next.1 (drop (k + 1) all) (rest / 2) in
    let same = ap (λ h. h.0.vars) s.outcome in
    omega (arith, whole, more, same)

pub next_digit : (start f g : Cnf) (all : List Lit) (bound : ℕ) (below below' : Option Lit) (rest k : ℕ) (d : Lit) → ComparedSoFar start all bound f below (drop k all) rest → k < length all → IsTrue (is_below f.vars (get_or all k d)) → g ≡ (with_compared_digit f below (get_or all k d) (eqb (rest % 2) 1)).0 → below' ≡ (with_compared_digit f below (get_or all k d) (eqb (rest % 2) 1)).1 → ComparedSoFar start all bound g below' (drop (k + 1) all) (rest / 2)
next_digit start f g all bound below below' rest k d s b h eg eb =
    let one = eqb (rest % 2) 1 in
    record {
      outcome = rw (eg, eb) (sym (at_drop_more (λ ls. with_comparison f below ls rest) all k d b) ∙ s.outcome);
      in_range = rw (eg, eb) (compared_digit-below f below (get_or all k d) one h);
      grows =
          let up = compared_digit-grows f below (get_or all k d) one in
          let same = ap (λ h. h.vars) eg in
          omega (arith, s.grows, up, same);
    }

pub out_of_reach : (f : Cnf) (x : List Lit) (bound : ℕ) → true ≡ leb (2 ^ length x) bound → with_at_least f x bound ≡ with_false f
unfolding with_at_least
out_of_reach f x bound h = cond-true (leb (2 ^ length x) bound) _ _ (sym h)

pub within_reach : (f : Cnf) (x : List Lit) (bound : ℕ) → false ≡ leb (2 ^ length x) bound → with_at_least f x bound ≡ with_found (with_comparison f None x bound).0 (with_comparison f None x bound).1
unfolding with_at_least
within_reach f x bound h = cond-false (leb (2 ^ length x) bound) _ _ (sym h)

-- a shift leaves nothing exactly where the power is larger
pub nothing_left : (bound digits : ℕ) → not (eqb (bound / 2 ^ digits) 0) ≡ leb (2 ^ digits) bound
nothing_left bound digits =
    elim (cases_lt bound (2 ^ digits)) [
      | inl h ↦
          let none : bound / 2 ^ digits ≡ 0 = div-eq_of_lt h in
          rw none (sym (lt-leb (2 ^ digits) bound h))
      | inr h ↦
          let some : 1 ≤ bound / 2 ^ digits = one_fits bound (2 ^ digits) (pow_pos digits) h in
          ap not (ne_eqb (bound / 2 ^ digits) 0 (λ e. omega arith)) ∙ sym (le-leb (2 ^ digits) bound h)
    ]
  where
    one_fits : (n p : ℕ) → 0 < p → p ≤ n → 1 ≤ n / p
    one_fits n p pos h =
        elim (cases_eq (n / p) 0) [
          | inl z ↦
              let whole = div-add-mod n p in
              let small = mod-lt n pos in
              let none : p * (n / p) ≡ 0 = rw z (omega arith) in
              absurd (omega arith)
          | inr e ↦ omega arith
        ]

pub wide_enough : (bound digits : ℕ) → bound < 2 ^ 32 → 32 ≤ digits → false ≡ leb (2 ^ digits) bound
wide_enough bound digits small h =
    let p : 2 ^ 32 ≤ 2 ^ digits = pow_mono h in sym (lt-leb (2 ^ digits) bound (omega arith))
