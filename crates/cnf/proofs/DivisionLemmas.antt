-- What school division keeps, allows and means.
use Rattle.std.proofs.Common.{◌≡◌, ◌+◌, ◌-◌, ◌*◌, ◌/◌, ◌%◌, ◌^◌, ◌<◌, ◌≤◌, ℕ, zero, suc, Bool, true, false, cond, eqb, ltb, IsTrue, MatchBool, List, [], ◌∷◌, None, Some, length, take, drop, refl, sym, ap, ◌∙◌, subst, inl, inr, zero-add, arith}
use Rattle.std.proofs.Math.Nat.{pow-suc, mul-suc}
use Rattle.std.proofs.Math.Pow.{pow_mono}
use Rattle.std.specs.Int.Count.{count_leading_zeros}
use Rattle.std.proofs.lemmas.Bool.{and_parts, and_from, cases_eq, cases_lt, cond-true, cond-false, eqb-true, eqb-false, lt-ltb, le-ltb}
use Rattle.std.proofs.lemmas.List.{length-take}
use Rattle.std.proofs.lemmas.Nat.{div-mul-add, mod-mul-add}
use lib.Count.{leading_top, leading_of_zero}
use Rattle.cnf.specs.declared.lit.Lit.{Lit}
use Rattle.cnf.specs.Cnf.{Cnf, is_in_range}
use Rattle.cnf.specs.Gates.{Extends}
use Rattle.cnf.specs.Lits.{is_below, are_below}
use Rattle.cnf.specs.Numbers.{with_at_least, remainder_digits, scaled_columns, with_reduced, Divided, with_next_digit, with_division}
use Rattle.cnf.specs.Sums.{bit, number, option_below, columns_below, with_columns}
use Rattle.cnf.specs.Values.{value, all_hold}
use Rattle.cnf.proofs.LitLemmas.{is_below-mono, are_below-mono, are_below-take}
use Rattle.cnf.proofs.ExtensionLemmas.{Extends-refl, Extends-trans, kept-hold}
use Rattle.cnf.proofs.CellLemmas.{option_bit}
use Rattle.cnf.proofs.SumLemmas.{columns_number, columns-facts}
use Rattle.cnf.proofs.ComparisonLemmas.{number-lt, at_least-facts}

-- how many digits a remainder has
pub digits-over : (by : ℕ) → 0 < by → by < 2 ^ 32 → by ≤ 2 ^ remainder_digits by
unfolding remainder_digits
digits-over by pos small =
    elim (cases_eq by 1) [
      | inl one ↦
          let none : by - 1 ≡ 0 = omega arith in
          let all : 32 - count_leading_zeros 32 (by - 1) ≡ 0 = rw (none, leading_of_zero) refl in
          rw (all, one) (omega arith)
      | inr more ↦
          let t = leading_top 32 (by - 1) (omega arith) (omega arith) in
          let e : 32 - count_leading_zeros 32 (by - 1) ≡ suc t.0 = omega (arith, t.1) in
          rw e (omega (arith, t.3))
    ]

digits-under : (by n : ℕ) → 0 < by → by < 2 ^ 32 → n < remainder_digits by → 2 ^ n < by
unfolding remainder_digits
digits-under by n pos small h =
    elim (cases_eq by 1) [
      | inl one ↦
          let none : by - 1 ≡ 0 = omega arith in
          let all : count_leading_zeros 32 (by - 1) ≡ 32 = rw none (leading_of_zero 32) in
          absurd (omega arith)
      | inr more ↦
          let t = leading_top 32 (by - 1) (omega arith) (omega arith) in
          let le : n ≤ t.0 = omega (arith, t.1) in
          let p : 2 ^ n ≤ 2 ^ t.0 = pow_mono le in
          omega (arith, t.2)
    ]

-- the number of the columns
half_factor : (factor n : ℕ) → factor < 2 ^ suc n → factor / 2 < 2 ^ n
half_factor factor n h = let k : factor < 2 ^ n * 2 = rw (← pow-suc 2 n) h in omega arith

scaled-column : (vs : List Bool) (gate : Lit) (factor : ℕ) (one : Bool) → eqb (factor % 2) 1 ≡ one → option_bit vs (cond one (Some gate) None) ≡ bit (value vs gate) * (factor % 2)
scaled-column vs gate factor true e = rw (eqb-true (factor % 2) 1 e) (omega arith)
scaled-column vs gate factor false e =
    let odd = eqb-false (factor % 2) 1 e in let even : factor % 2 ≡ 0 = omega arith in rw even (omega arith)

scaled-number : (vs : List Bool) (gate : Lit) (factor : ℕ) (ls : List Lit) → factor < 2 ^ length ls → columns_number vs (scaled_columns gate factor ls) ≡ number vs ls + bit (value vs gate) * factor
scaled-number vs gate factor [] h = let none : factor ≡ 0 = omega arith in rw none (omega arith)
scaled-number vs gate factor (l ∷ ls) h =
    let rest = scaled-number vs gate (factor / 2) ls (half_factor factor (length ls) h) in
    let one = scaled-column vs gate factor (eqb (factor % 2) 1) refl in
    together (bit (value vs l)) _ (bit (value vs gate)) factor (number vs ls) _ one rest
  where
    together : (d o g factor n m : ℕ) → o ≡ g * (factor % 2) → m ≡ n + g * (factor / 2) → d + o + 2 * m ≡ (d + 2 * n) + g * factor
    together d o g factor n m e k =
        let split : factor ≡ factor % 2 + 2 * (factor / 2) = omega arith in
        let whole = ap (λ x. g * x) split in
        grind arith

pub scaled-below : (n : ℕ) (gate : Lit) (factor : ℕ) (ls : List Lit) → IsTrue (is_below n gate) → IsTrue (are_below n ls) → IsTrue (columns_below n (scaled_columns gate factor ls))
scaled-below n gate factor [] hg hl = refl
scaled-below n gate factor (l ∷ ls) hg hl =
    let parts = and_parts (is_below n l) (are_below n ls) hl in
    and_from _ _ (and_from _ _ parts.0 (either (eqb (factor % 2) 1))) (scaled-below n gate (factor / 2) ls hg parts.1)
  where
    either : (one : Bool) → IsTrue (option_below n (cond one (Some gate) None))
    either true = hg
    either false = refl

pub length-scaled : (gate : Lit) (factor : ℕ) (ls : List Lit) → length (scaled_columns gate factor ls) ≡ length ls
length-scaled gate factor [] = refl
length-scaled gate factor (l ∷ ls) = ap suc (length-scaled gate (factor / 2) ls)

number-split : (vs : List Bool) (n : ℕ) (ls : List Lit) → n ≤ length ls → number vs ls ≡ number vs (take n ls) + 2 ^ n * number vs (drop n ls)
number-split vs zero ls h = omega arith
number-split vs (suc n) [] h = absurd (omega arith)
number-split vs (suc n) (l ∷ ls) h =
    let rest = number-split vs n ls (omega arith) in
    rw pow-suc (shift (bit (value vs l)) (number vs ls) (number vs (take n ls)) (2 ^ n) (number vs (drop n ls)) rest)
  where
    shift : (d a t p r : ℕ) → a ≡ t + p * r → d + 2 * a ≡ (d + 2 * t) + (p * 2) * r
    shift d a t p r e = grind arith

-- a sum of one block and what is below
one_block : (s d p q : ℕ) → s + p * q ≡ d + p → s < p → d < p → s ≡ d
one_block s d p zero e hs hd = omega arith
one_block s d p (suc zero) e hs hd = omega arith
one_block s d p (suc (suc q)) e hs hd =
    let k : s + (p * q + p + p) ≡ d + p = rw (← mul-suc p q, ← mul-suc p (suc q)) e in absurd (omega arith)

no_block : (s d p q : ℕ) → s + p * q ≡ d → s < p → d < p → s ≡ d
no_block s d p zero e hs hd = omega arith
no_block s d p (suc q) e hs hd = let k : s + (p * q + p) ≡ d = rw (← mul-suc p q) e in absurd (omega arith)

-- the lowest digits of x + fits · (p - by)
reduced-number : (fits : Bool) (s carry low high x p by : ℕ) → x ≡ low + p * high → s + p * carry ≡ low + bit fits * (p - by) → s < p → 0 < by → by ≤ p → x < 2 * by → MatchBool fits (by ≤ x) (x < by) → x ≡ s + by * bit fits
reduced-number true s carry low high x p by split sum small pos fit twice m =
    let both : s + p * (carry + high) ≡ (x - by) + p = grind arith in
    let e = one_block s (x - by) p (carry + high) both small (omega arith) in
    omega arith
reduced-number false s carry low high x p by split sum small pos fit twice m =
    let both : s + p * (carry + high) ≡ x = grind arith in
    let e = no_block s x p (carry + high) both small (omega arith) in
    omega arith

pub record ReducedFacts (f : Cnf) (fits : Lit) (x : List Lit) (by : ℕ) (r : Cnf × List Lit) : Type 0 where
  pub extends : Extends f r.0
  pub below : IsTrue (are_below r.0.vars r.1)
  pub digits : length r.1 ≤ remainder_digits by
  pub means : (vs : List Bool) → IsTrue (all_hold vs r.0.clauses) → number vs x < 2 * by → MatchBool (value vs fits) (by ≤ number vs x) (number vs x < by) → number vs x ≡ number vs r.1 + by * bit (value vs fits)

pub few : (f : Cnf) (fits : Lit) (x : List Lit) (by : ℕ) → length x < remainder_digits by → with_reduced f fits x by ≡ (f, x)
unfolding with_reduced
few f fits x by h = cond-true (ltb (length x) (remainder_digits by)) _ _ (lt-ltb _ _ h)

pub many : (f : Cnf) (fits : Lit) (x : List Lit) (by : ℕ) → remainder_digits by ≤ length x → with_reduced f fits x by ≡ (let n = remainder_digits by in let sum = with_columns f None (scaled_columns fits (2 ^ n - by) (take n x)) in (sum.formula, sum.sums))
unfolding with_reduced
many f fits x by h = cond-false (ltb (length x) (remainder_digits by)) _ _ (le-ltb _ _ h)

few-facts : (f : Cnf) (fits : Lit) (x : List Lit) (by : ℕ) → IsTrue (is_in_range f) → IsTrue (are_below f.vars x) → 0 < by → by < 2 ^ 32 → length x < remainder_digits by → ReducedFacts f fits x by (f, x)
few-facts f fits x by r hx pos small h = record {
  extends = Extends-refl f r;
  below = hx;
  digits = omega arith;
  means =
      λ vs k twice m.
      let under = digits-under by (length x) pos small h in
      let lt = number-lt vs x in
      nothing_taken (value vs fits) (number vs x) (omega arith) m;
}
  where
    nothing_taken : (b : Bool) (n : ℕ) → n < by → MatchBool b (by ≤ n) (n < by) → n ≡ n + by * bit b
    nothing_taken true n lt m = absurd (omega arith)
    nothing_taken false n lt m = omega arith

many-facts : (f : Cnf) (fits : Lit) (x : List Lit) (by n : ℕ) → IsTrue (is_in_range f) → IsTrue (is_below f.vars fits) → IsTrue (are_below f.vars x) → 0 < by → by ≤ 2 ^ n → n ≡ remainder_digits by → n ≤ length x → ReducedFacts f fits x by (let sum = with_columns f None (scaled_columns fits (2 ^ n - by) (take n x)) in (sum.formula, sum.sums))
many-facts f fits x by n r hf hx pos over same h =
    let cs = scaled_columns fits (2 ^ n - by) (take n x) in
    let sum = with_columns f None cs in
    let s = columns-facts f None cs r refl (scaled-below f.vars fits (2 ^ n - by) (take n x) hf (are_below-take f.vars n x hx)) in
    let short : length (take n x) ≡ n = omega (arith, length-take n x) in
    let columns : length cs ≡ n = length-scaled fits (2 ^ n - by) (take n x) ∙ short in
    let places : length sum.sums ≡ n = s.sums_length ∙ columns in
    record {
      extends = s.extends;
      below = s.sums_below;
      digits = omega arith;
      means =
          λ vs k twice m.
          let factor : 2 ^ n - by < 2 ^ length (take n x) = rw short (omega arith) in
          let total = s.means vs k ∙ (zero-add _ ∙ scaled-number vs fits (2 ^ n - by) (take n x) factor) in
          let sums : number vs sum.sums + 2 ^ n * option_bit vs sum.carry ≡ number vs (take n x) + bit (value vs fits) * (2 ^ n - by) = rw columns at total in
          let small : number vs sum.sums < 2 ^ n = rw places at (number-lt vs sum.sums) in
          reduced-number (value vs fits) (number vs sum.sums) (option_bit vs sum.carry) (number vs (take n x)) (number vs (drop n x)) (number vs x) (2 ^ n) by (number-split vs n x h) sums small pos over twice m;
    }

pub reduced-facts : (f : Cnf) (fits : Lit) (x : List Lit) (by : ℕ) → IsTrue (is_in_range f) → IsTrue (is_below f.vars fits) → IsTrue (are_below f.vars x) → 0 < by → by < 2 ^ 32 → ReducedFacts f fits x by (with_reduced f fits x by)
reduced-facts f fits x by r hf hx pos small =
    elim (cases_lt (length x) (remainder_digits by)) [
      | inl h ↦
          subst (λ a. ReducedFacts f fits x by a) (sym (few f fits x by h)) (few-facts f fits x by r hx pos small h)
      | inr h ↦
          subst (λ a. ReducedFacts f fits x by a) (sym (many f fits x by h)) (many-facts f fits x by (remainder_digits by) r hf hx pos (digits-over by pos small) refl h)
    ]

-- what the division keeps, allows and means
pub record DivisionFacts (f : Cnf) (x : List Lit) (by : ℕ) (r : Divided) : Type 0 where
  pub extends : Extends f r.formula
  pub quotient_below : IsTrue (are_below r.formula.vars r.quotient)
  pub remainder_below : IsTrue (are_below r.formula.vars r.remainder)
  pub quotient_digits : length r.quotient ≡ length x
  pub remainder_digits_at_most : length r.remainder ≤ remainder_digits by
  pub means : (vs : List Bool) → IsTrue (all_hold vs r.formula.clauses) → (number vs x ≡ by * number vs r.quotient + number vs r.remainder) × (number vs r.remainder < by)

-- the remainder of one more digit
one_digit : (digit fits : Bool) (x q rem by next : ℕ) → x ≡ by * q + rem → bit digit + 2 * rem ≡ next + by * bit fits → bit digit + 2 * x ≡ by * (bit fits + 2 * q) + next
one_digit digit fits x q rem by next e k = grind arith

rem_below : (fits : Bool) (x by next : ℕ) → x ≡ next + by * bit fits → x < 2 * by → MatchBool fits (by ≤ x) (x < by) → next < by
rem_below true x by next e h m = omega arith
rem_below false x by next e h m = omega arith

bit_le : (b : Bool) → bit b ≤ 1
bit_le true = omega arith
bit_le false = omega arith

next-facts : (f : Cnf) (digit : Lit) (digits : List Lit) (by : ℕ) (d : Divided) → IsTrue (is_below f.vars digit) → 0 < by → by < 2 ^ 32 → DivisionFacts f digits by d → DivisionFacts f (digit ∷ digits) by (with_next_digit d digit by)
unfolding with_next_digit
next-facts f digit digits by d hd pos small old =
    let x = digit ∷ d.remainder in
    let digit_below = is_below-mono f.vars d.formula.vars old.extends.more_vars digit hd in
    let hx : IsTrue (are_below d.formula.vars x) = and_from _ _ digit_below old.remainder_below in
    let a = at_least-facts d.formula x by old.extends.in_range hx in
    let fits = with_at_least d.formula x by in
    let later = are_below-mono d.formula.vars fits.0.vars a.extends.more_vars in
    let r = reduced-facts fits.0 fits.1 x by a.extends.in_range a.below (later x hx) pos small in
    let rest = with_reduced fits.0 fits.1 x by in
    let up = are_below-mono fits.0.vars rest.0.vars r.extends.more_vars in
    record {
      extends =
          Extends-trans f d.formula rest.0 old.extends (Extends-trans d.formula fits.0 rest.0 a.extends r.extends);
      quotient_below =
          and_from _ _ (is_below-mono fits.0.vars rest.0.vars r.extends.more_vars fits.1 a.below) (up d.quotient (later d.quotient old.quotient_below));
      remainder_below = r.below;
      quotient_digits = ap suc old.quotient_digits;
      remainder_digits_at_most = r.digits;
      means =
          λ vs h.
          let h_fits = kept-hold fits.0 rest.0 vs r.extends h in
          let before = old.means vs (kept-hold d.formula fits.0 vs a.extends h_fits) in
          let compared = a.means vs h_fits in
          let one = bit_le (value vs digit) in
          let twice : number vs x < 2 * by = omega (arith, before.1) in
          let taken = r.means vs h twice compared in (
            one_digit (value vs digit) (value vs fits.1) (number vs digits) (number vs d.quotient) (number vs d.remainder) by (number vs rest.1) before.0 taken,
            rem_below (value vs fits.1) (number vs x) by (number vs rest.1) taken twice compared,
          );
    }

pub division-facts : (f : Cnf) (x : List Lit) (by : ℕ) → IsTrue (is_in_range f) → IsTrue (are_below f.vars x) → 0 < by → by < 2 ^ 32 → DivisionFacts f x by (with_division f x by)
division-facts f [] by r hx pos small = record {
  extends = Extends-refl f r;
  quotient_below = refl;
  remainder_below = refl;
  quotient_digits = refl;
  remainder_digits_at_most = omega arith;
  means = λ vs h. (omega arith, pos);
}
division-facts f (digit ∷ digits) by r hx pos small =
    let parts = and_parts (is_below f.vars digit) (are_below f.vars digits) hx in
    next-facts f digit digits by (with_division f digits by) parts.0 pos small (division-facts f digits by r parts.1 pos small)

pub quotient_of : (x q r by : ℕ) → x ≡ by * q + r → r < by → q ≡ x / by
quotient_of x q r by e h =
    let k : x ≡ q * by + r = grind arith in sym (ap (λ n. n / by) k ∙ div-mul-add q by r h)

pub remainder_of : (x q r by : ℕ) → x ≡ by * q + r → r < by → r ≡ x % by
remainder_of x q r by e h =
    let k : x ≡ q * by + r = grind arith in sym (ap (λ n. n % by) k ∙ mod-mul-add q by r h)
