-- Relations between numbers say what they should.
use Rattle.std.proofs.Common.{Bool, IsTrue, List, [], ap, arith, eqb, false, get_or, length, map, not, refl, subst, suc, sym, true, zero, ℕ, ◌%◌, ◌&&◌, ◌*◌, ◌++◌, ◌+◌, ◌/◌, ◌<◌, ◌^◌, ◌||◌, ◌∙◌, ◌∷◌, ◌≡◌, ◌≤◌}
use Rattle.std.proofs.Math.Nat.{pow-suc}
use Rattle.std.proofs.lemmas.Bool.{and_from, and_parts, false≢true}
use Rattle.std.specs.Bool.{MatchBool}
use Rattle.std.specs.List.{list_all}
use Rattle.formula_laws.proofs.Items.Items.{Item, gate_item}
use Rattle.formula_laws.specs.Relations.{digits, literals, same_digits, with_less, with_sum}
use Rattle.cnf.proofs.ForCallers.{Extends-trans, adder-facts, adder-grows, are_below-mono, are_below-negations, at_least-facts, at_least-grows, holds-append, is_below-negation, kept-hold, one_below, pair_below, value-append, value-negation}
use Rattle.cnf.specs.Cnf.{Cnf, is_in_range}
use Rattle.cnf.specs.Gates.{Extends}
use Rattle.cnf.specs.Lits.{are_below, is_below, negation, positive}
use Rattle.cnf.specs.Numbers.{with_at_least}
use Rattle.cnf.specs.Sums.{bit, number, with_adder}
use Rattle.cnf.specs.Values.{all_hold, holds, value}
use Rattle.cnf.specs.declared.lit.Lit.{Lit}

-- a number keeps its value with more values behind
pub number_stable : (vs more : List Bool) (x : List Lit) → IsTrue (are_below (length vs) x) → number (vs ++ more) x ≡ number vs x
number_stable vs more [] below = refl
number_stable vs more (l ∷ ls) below =
    let parts = and_parts (is_below (length vs) l) (are_below (length vs) ls) below in
    ap (λ b. bit b + 2 * number (vs ++ more) ls) (value-append vs more l parts.0) ∙ ap (λ (n : ℕ). bit (value vs l) + 2 * n) (number_stable vs more ls parts.1)

same_bit : (a b : Bool) (m n : ℕ) → bit a + 2 * m ≡ bit b + 2 * n → (a ≡ b) × (m ≡ n)
same_bit true true m n e = (refl, omega arith)
same_bit true false m n e = absurd (omega arith)
same_bit false true m n e = absurd (omega arith)
same_bit false false m n e = (refl, omega arith)

two : (a b : Bool) → IsTrue ((not a || (b || false)) && ((a || (not b || false)) && true)) → a ≡ b
two true true h = refl
two true false h = absurd (false≢true h)
two false true h = absurd (false≢true h)
two false false h = refl

-- two clauses that make two literals equal, and one that makes a literal false
pair_means : (vs : List Bool) (x y : Lit) → IsTrue (holds vs (negation x ∷ y ∷ [])) → IsTrue (holds vs (x ∷ negation y ∷ [])) → value vs x ≡ value vs y
pair_means vs x y h k =
    let e = value-negation vs x in
    let e' = value-negation vs y in
    by (value vs x) (value vs y) (subst (λ b. IsTrue (b || (value vs y || false))) e h) (subst (λ b. IsTrue (value vs x || (b || false))) e' k)
  where
    by : (a b : Bool) → IsTrue (not a || (b || false)) → IsTrue (a || (not b || false)) → a ≡ b
    by true true h k = refl
    by true false h k = absurd (false≢true h)
    by false true h k = absurd (false≢true k)
    by false false h k = refl

pair_back : (vs : List Bool) (x y : Lit) → value vs x ≡ value vs y → IsTrue (holds vs (negation x ∷ y ∷ [])) × IsTrue (holds vs (x ∷ negation y ∷ []))
pair_back vs x y is =
    let r = by (value vs x) (value vs y) is in
    (subst (λ b. IsTrue (b || (value vs y || false))) (sym (value-negation vs x)) r.0, subst (λ b. IsTrue (value vs x || (b || false))) (sym (value-negation vs y)) r.1)
  where
    by : (a b : Bool) → a ≡ b → IsTrue (not a || (b || false)) × IsTrue (a || (not b || false))
    by true true e = (refl, refl)
    by true false e = absurd (false≢true (sym e))
    by false true e = absurd (false≢true e)
    by false false e = (refl, refl)

one_means : (vs : List Bool) (x : Lit) → IsTrue (holds vs (negation x ∷ [])) → value vs x ≡ false
one_means vs x h = by (value vs x) (subst (λ b. IsTrue (b || false)) (value-negation vs x) h)
  where
    by : (a : Bool) → IsTrue (not a || false) → a ≡ false
    by true h = absurd (false≢true h)
    by false h = refl

one_back : (vs : List Bool) (x : Lit) → value vs x ≡ false → IsTrue (holds vs (negation x ∷ []))
one_back vs x is = subst (λ b. IsTrue (b || false)) (sym (value-negation vs x ∙ ap not is)) refl

pub digits_means : (vs : List Bool) (xs ys : List Lit) → length ys ≤ length xs → IsTrue (all_hold vs (same_digits xs ys)) → number vs xs ≡ number vs ys
digits_means vs [] [] h all = refl
digits_means vs [] (y ∷ ys) h all = absurd (omega arith)
digits_means vs (x ∷ xs) [] h all =
    let parts = and_parts (holds vs (negation x ∷ [])) (all_hold vs (same_digits xs [])) all in
    ap (λ b. bit b + 2 * number vs xs) (one_means vs x parts.0) ∙ (let ih : number vs xs ≡ 0 = digits_means vs xs [] (omega arith) parts.1 in omega arith)
digits_means vs (x ∷ xs) (y ∷ ys) h all =
    let parts = and_parts (holds vs (negation x ∷ y ∷ [])) (holds vs (x ∷ negation y ∷ []) && all_hold vs (same_digits xs ys)) all in
    let more = and_parts (holds vs (x ∷ negation y ∷ [])) (all_hold vs (same_digits xs ys)) parts.1 in
    ap (λ b. bit b + 2 * number vs xs) (pair_means vs x y parts.0 more.0) ∙ ap (λ (n : ℕ). bit (value vs y) + 2 * n) (digits_means vs xs ys (omega arith) more.1)

no_bit : (a : Bool) (m : ℕ) → bit a + 2 * m ≡ 0 → (a ≡ false) × (m ≡ 0)
no_bit true m e = absurd (omega arith)
no_bit false m e = (refl, omega arith)

pub digits_back : (vs : List Bool) (xs ys : List Lit) → length ys ≤ length xs → number vs xs ≡ number vs ys → IsTrue (all_hold vs (same_digits xs ys))
digits_back vs [] [] h e = refl
digits_back vs [] (y ∷ ys) h e = absurd (omega arith)
digits_back vs (x ∷ xs) [] h e =
    let parts = no_bit (value vs x) (number vs xs) e in
    and_from (holds vs (negation x ∷ [])) (all_hold vs (same_digits xs [])) (one_back vs x parts.0) (digits_back vs xs [] (omega arith) parts.1)
digits_back vs (x ∷ xs) (y ∷ ys) h e =
    let parts = same_bit (value vs x) (value vs y) (number vs xs) (number vs ys) e in
    let pair = pair_back vs x y parts.0 in
    and_from (holds vs (negation x ∷ y ∷ [])) (holds vs (x ∷ negation y ∷ []) && all_hold vs (same_digits xs ys)) pair.0
    (and_from (holds vs (x ∷ negation y ∷ [])) (all_hold vs (same_digits xs ys)) pair.1 (digits_back vs xs ys (omega arith) parts.1))

pub digits_below : (n : ℕ) (xs ys : List Lit) → IsTrue (are_below n xs) → IsTrue (are_below n ys) → IsTrue (list_all (are_below n) (same_digits xs ys))
digits_below n [] ys hx hy = refl
digits_below n (x ∷ xs) [] hx hy =
    let px = and_parts (is_below n x) (are_below n xs) hx in
    and_from (are_below n (negation x ∷ [])) (list_all (are_below n) (same_digits xs [])) (one_below n (negation x) (is_below-negation n x px.0)) (digits_below n xs [] px.1 refl)
digits_below n (x ∷ xs) (y ∷ ys) hx hy =
    let px = and_parts (is_below n x) (are_below n xs) hx in
    let py = and_parts (is_below n y) (are_below n ys) hy in
    and_from (are_below n (negation x ∷ y ∷ [])) (are_below n (x ∷ negation y ∷ []) && list_all (are_below n) (same_digits xs ys)) (pair_below n (negation x) y (is_below-negation n x px.0) py.0)
    (and_from (are_below n (x ∷ negation y ∷ [])) (list_all (are_below n) (same_digits xs ys)) (pair_below n x (negation y) px.0 (is_below-negation n y py.0)) (digits_below n xs ys px.1 py.1))

-- x + y = z, as a part of a formula
pub sum_item : (base : ℕ) (x y z : List Lit) → IsTrue (are_below base x) → IsTrue (are_below base y) → IsTrue (are_below base z) → length z ≤ length x + 1 →
    Item base (with_sum x y z) (λ vs. number vs x + number vs y ≡ number vs z)
sum_item base x y z hx hy hz len =
    gate_item base (λ f. with_adder f x y) (λ sum. same_digits sum z) (λ vs. number vs x + number vs y ≡ number vs z)
    (λ f low r. (adder-facts f x y r (up f low x hx) (up f low y hy)).extends)
    (λ f. adder-grows f x y)
    (λ f low r. digits_below (with_adder f x y).0.vars (with_adder f x y).1 z (adder-facts f x y r (up f low x hx) (up f low y hy)).below (are_below-mono base (with_adder f x y).0.vars (let g = adder-grows f x y in omega arith) z hz))
    (λ f vs low r gate rest. let a = adder-facts f x y r (up f low x hx) (up f low y hy) in
    sym (a.means vs gate) ∙ digits_means vs (with_adder f x y).1 z (let d = a.digits in omega arith) rest)
    (λ f vs low r gate p. let a = adder-facts f x y r (up f low x hx) (up f low y hy) in
    digits_back vs (with_adder f x y).1 z (let d = a.digits in omega arith) (a.means vs gate ∙ p))
    (λ vs more low p. let ex = number_stable vs more x (are_below-mono base (length vs) low x hx) in let ey = number_stable vs more y (are_below-mono base (length vs) low y hy) in let ez = number_stable vs more z (are_below-mono base (length vs) low z hz) in omega arith)
  where
    up : (f : Cnf) → base ≤ f.vars → (ls : List Lit) → IsTrue (are_below base ls) → IsTrue (are_below f.vars ls)
    up f low ls h = are_below-mono base f.vars low ls h

-- the digits of the other kind make up the rest to 2^n - 1
pub number_negations : (vs : List Bool) (x : List Lit) → suc (number vs x + number vs (map negation x)) ≡ 2 ^ length x
number_negations vs [] = omega arith
number_negations vs (l ∷ ls) =
    let rest = number_negations vs ls in
    let p = pow-suc 2 (length ls) in
    let e = value-negation vs l in
    by (value vs l) (value vs (negation l)) e (number vs ls) (number vs (map negation ls)) (2 ^ length ls) (2 ^ suc (length ls)) rest p
  where
    by : (a b : Bool) → b ≡ not a → (m n p q : ℕ) → suc (m + n) ≡ p → q ≡ p * 2 → suc ((bit a + 2 * m) + (bit b + 2 * n)) ≡ q
    by true true e m n p q h k = absurd (false≢true (sym e))
    by true false e m n p q h k = omega arith
    by false true e m n p q h k = omega arith
    by false false e m n p q h k = absurd (false≢true e)

-- what the literals from a variable on read, where its digits stand there
pub number_read : (vs : List Bool) (v n number' : ℕ) → number' < 2 ^ n → ((k : ℕ) → k < n → value vs (positive (v + k)) ≡ (get_or (digits n number') k false)) → number vs (literals v n) ≡ number'
number_read vs v zero m small at = let e : 2 ^ 0 ≡ 1 = refl in omega arith
number_read vs v (suc n) m small at =
    let p = pow-suc 2 n in
    let here = at 0 (omega arith) in
    let rest = number_read vs (suc v) n (m / 2) (omega arith) (λ k h. ap (λ (w : ℕ). value vs (positive w)) (let e : suc v + k ≡ v + suc k = omega arith in e) ∙ at (suc k) (omega arith)) in
    ap (λ b. bit b + 2 * number vs (literals (suc v) n)) (ap (λ (w : ℕ). value vs (positive w)) (let e : v ≡ v + 0 = omega arith in e) ∙ here)
    ∙ (let b = low_bit m in omega arith)
  where
    low_bit : (m : ℕ) → bit (eqb (m % 2) 1) ≡ m % 2
    low_bit m = grind arith

abbrev pub compared : List Lit → List Lit → Cnf → Cnf × Lit
compared x y f = let sum = with_adder f y (map negation x) in with_at_least sum.0 sum.1 (2 ^ length x)

pub record ComparedFacts (f : Cnf) (x y : List Lit) (r : Cnf × Lit) : Type 0 where
  pub extends : Extends f r.0
  pub below : IsTrue (is_below r.0.vars r.1)
  yes : (vs : List Bool) → IsTrue (all_hold vs r.0.clauses) → IsTrue (value vs r.1) → number vs x < number vs y
  pub no' : (vs : List Bool) → IsTrue (all_hold vs r.0.clauses) → number vs x < number vs y → IsTrue (value vs r.1)

pub compared-facts : (f : Cnf) (x y : List Lit) → IsTrue (is_in_range f) → IsTrue (are_below f.vars x) → IsTrue (are_below f.vars y) → ComparedFacts f x y (compared x y f)
compared-facts f x y r hx hy =
    let a = adder-facts f y (map negation x) r hy (are_below-negations f.vars x hx) in
    let sum = with_adder f y (map negation x) in
    let c = at_least-facts sum.0 sum.1 (2 ^ length x) a.extends.in_range a.below in
    let top = with_at_least sum.0 sum.1 (2 ^ length x) in
    record {
      extends = Extends-trans f sum.0 top.0 a.extends c.extends;
      below = c.below;
      yes = λ vs h t. let m = c.means vs h in let s = a.means vs (kept-hold sum.0 top.0 vs c.extends h) in let w = number_negations vs x in
          (let k : 2 ^ length x ≤ number vs sum.1 = subst (λ b. MatchBool b (2 ^ length x ≤ number vs sum.1) (number vs sum.1 < 2 ^ length x)) t m in omega arith);
      no' = λ vs h less. let m = c.means vs h in let s = a.means vs (kept-hold sum.0 top.0 vs c.extends h) in let w = number_negations vs x in
          by (value vs top.1) m (omega arith);
    }
  where
    by : {p q : ℕ} (b : Bool) → MatchBool b (p ≤ q) (q < p) → p ≤ q → IsTrue b
    by true m h = refl
    by false m h = absurd (omega arith)

-- x < y unless some literal is true, as a part of a formula
pub less_item : (base : ℕ) (unless x y : List Lit) → IsTrue (are_below base unless) → IsTrue (are_below base x) → IsTrue (are_below base y) →
    Item base (with_less unless x y) (λ vs. (holds vs unless ≡ false) → number vs x < number vs y)
less_item base unless x y hu hx hy =
    gate_item base (compared x y) (λ top. (top ∷ unless) ∷ []) (λ vs. (holds vs unless ≡ false) → number vs x < number vs y)
    (λ f low r. (facts f low r).extends)
    (λ f. let g = adder-grows f y (map negation x) in let sum = with_adder f y (map negation x) in let h = at_least-grows sum.0 sum.1 (2 ^ length x) in omega arith)
    (λ f low r. and_from (are_below (compared x y f).0.vars ((compared x y f).1 ∷ unless)) true
    (and_from (is_below (compared x y f).0.vars (compared x y f).1) (are_below (compared x y f).0.vars unless) (facts f low r).below (are_below-mono base (compared x y f).0.vars (let e = (facts f low r).extends.more_vars in omega arith) unless hu)) refl)
    (λ f vs low r gate rest none. (facts f low r).yes vs gate (first_true (value vs (compared x y f).1) (holds vs unless) rest none))
    (λ f vs low r gate p. some_true (value vs (compared x y f).1) (holds vs unless) (λ none. (facts f low r).no' vs gate (p none)))
    (λ vs more low p none. let ex = number_stable vs more x (are_below-mono base (length vs) low x hx) in let ey = number_stable vs more y (are_below-mono base (length vs) low y hy) in
    let q = p (sym (holds-append vs more unless (are_below-mono base (length vs) low unless hu)) ∙ none) in omega arith)
  where
    facts : (f : Cnf) → base ≤ f.vars → IsTrue (is_in_range f) → ComparedFacts f x y (compared x y f)
    facts f low r = compared-facts f x y r (are_below-mono base f.vars low x hx) (are_below-mono base f.vars low y hy)

    first_true : (a b : Bool) → IsTrue ((a || b) && true) → b ≡ false → IsTrue a
    first_true true b h e = refl
    first_true false true h e = absurd (false≢true (sym e))
    first_true false false h e = absurd (false≢true h)

    some_true : (a b : Bool) → (b ≡ false → IsTrue a) → IsTrue ((a || b) && true)
    some_true true b h = refl
    some_true false true h = refl
    some_true false false h = absurd (false≢true (h refl))
