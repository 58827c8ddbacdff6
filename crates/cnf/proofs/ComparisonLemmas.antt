-- What the comparison with a constant keeps, allows and means.
use Rattle.std.proofs.Common.{◌≡◌, ◌+◌, ◌*◌, ◌/◌, ◌%◌, ◌^◌, ◌<◌, ◌≤◌, ℕ, suc, Bool, true, false, cond, eqb, leb, ◌&&◌, ◌||◌, IsTrue, MatchBool, List, [], ◌∷◌, Option, None, Some, length, refl, sym, ◌∙◌, subst, inl, inr, arith}
use Rattle.std.proofs.Math.Nat.{pow-suc}
use Rattle.std.proofs.lemmas.Bool.{and_parts, cases_lt, cond-true, cond-false, eqb-true, eqb-false, le-leb, lt-leb}
use Rattle.cnf.specs.declared.lit.Lit.{Lit}
use Rattle.cnf.specs.Cnf.{Cnf, is_in_range}
use Rattle.cnf.specs.Gates.{Extends, with_true, with_false}
use Rattle.cnf.specs.Lits.{is_below, are_below}
use Rattle.cnf.specs.Numbers.{with_digit, with_compared_digit, with_comparison, with_found, with_at_least}
use Rattle.cnf.specs.Sums.{bit, number, option_below}
use Rattle.cnf.specs.Values.{value, all_hold}
use Rattle.cnf.proofs.LitLemmas.{are_below-mono, pair_below}
use Rattle.cnf.proofs.ExtensionLemmas.{Extends-refl, Extends-trans, kept-hold}
use Rattle.cnf.proofs.GateLemmas.{and_gate-extends, and_gate-below, and_gate-means, or_gate-extends, or_gate-below, or_gate-means, true-extends, true-below, true-means, false-extends, false-below, false-means}

-- None stands for "true"
abbrev pub found_value : List Bool → Option Lit → Bool
found_value vs None = true
found_value vs (Some l) = value vs l

-- a digit and the outcome of the lower ones
abbrev pub next_value : Bool → Bool → Bool → Bool
next_value one digit below = cond one (digit && below) (digit || below)

pub record StepFacts (f : Cnf) (one : Bool) (digit : Lit) (below : Option Lit) (r : Cnf × Option Lit) : Type 0 where
  pub extends : Extends f r.0
  pub in_range : IsTrue (option_below r.0.vars r.1)
  pub means : (vs : List Bool) → IsTrue (all_hold vs r.0.clauses) → found_value vs r.1 ≡ next_value one (value vs digit) (found_value vs below)

and_true : (b : Bool) → b ≡ (b && true)
and_true true = refl
and_true false = refl

or_true : (b : Bool) → true ≡ (b || true)
or_true true = refl
or_true false = refl

first-facts : (f : Cnf) (one : Bool) (digit : Lit) → IsTrue (is_in_range f) → IsTrue (is_below f.vars digit) → StepFacts f one digit None (f, cond one (Some digit) None)
first-facts f true digit r h = record { extends = Extends-refl f r; in_range = h; means = λ vs k. and_true (value vs digit) }
first-facts f false digit r h = record {
  extends = Extends-refl f r;
  in_range = refl;
  means = λ vs k. or_true (value vs digit);
}

both_true : (a b : Bool) → (a && (b && true)) ≡ (a && b)
both_true true true = refl
both_true true false = refl
both_true false b = refl

digit-facts : (f : Cnf) (one : Bool) (digit below : Lit) → IsTrue (is_in_range f) → IsTrue (is_below f.vars digit) → IsTrue (is_below f.vars below) → StepFacts f one digit (Some below) ((with_digit f one digit below).0, Some (with_digit f one digit below).1)
digit-facts f true digit below r h k = record {
  extends = and_gate-extends f (digit ∷ below ∷ []) r (pair_below f.vars digit below h k);
  in_range = and_gate-below f (digit ∷ below ∷ []);
  means =
      λ vs m. and_gate-means f (digit ∷ below ∷ []) vs m ∙ both_true (value vs digit) (value vs below);
}
digit-facts f false digit below r h k = record {
  extends = or_gate-extends f digit below r h k;
  in_range = or_gate-below f digit below;
  means = λ vs m. or_gate-means f digit below vs m;
}

pub next-facts : (f : Cnf) (below : Option Lit) (digit : Lit) (one : Bool) → IsTrue (is_in_range f) → IsTrue (option_below f.vars below) → IsTrue (is_below f.vars digit) → StepFacts f one digit below (with_compared_digit f below digit one)
next-facts f None digit one r hb hd = first-facts f one digit r hd
next-facts f (Some below) digit one r hb hd = digit-facts f one digit below r hd hb

MatchBool-map : (b : Bool) {P P' Q Q' : Type 0} → (P → P') → (Q → Q') → MatchBool b P Q → MatchBool b P' Q'
MatchBool-map true p q h = p h
MatchBool-map false p q h = q h

abbrev Compared : Bool → ℕ → ℕ → Type 0
Compared b bound n = MatchBool b (bound < n) (n ≤ bound)

-- from the higher digits to all of them
one_up : (d g : Bool) (n bound : ℕ) → bound % 2 ≡ 1 → (b : Bool) → Compared b (bound / 2) (n + bit (d && g)) → Compared b bound (bit d + 2 * n + bit g)
one_up true true n bound odd b h = MatchBool-map b (λ k. omega arith) (λ k. omega arith) h
one_up true false n bound odd b h = MatchBool-map b (λ k. omega arith) (λ k. omega arith) h
one_up false true n bound odd b h = MatchBool-map b (λ k. omega arith) (λ k. omega arith) h
one_up false false n bound odd b h = MatchBool-map b (λ k. omega arith) (λ k. omega arith) h

zero_up : (d g : Bool) (n bound : ℕ) → bound % 2 ≡ 0 → (b : Bool) → Compared b (bound / 2) (n + bit (d || g)) → Compared b bound (bit d + 2 * n + bit g)
zero_up true true n bound even b h = MatchBool-map b (λ k. omega arith) (λ k. omega arith) h
zero_up true false n bound even b h = MatchBool-map b (λ k. omega arith) (λ k. omega arith) h
zero_up false true n bound even b h = MatchBool-map b (λ k. omega arith) (λ k. omega arith) h
zero_up false false n bound even b h = MatchBool-map b (λ k. omega arith) (λ k. omega arith) h

digit_up : (d g : Bool) (n bound : ℕ) (one : Bool) → eqb (bound % 2) 1 ≡ one → (b : Bool) → Compared b (bound / 2) (n + bit (next_value one d g)) → Compared b bound (bit d + 2 * n + bit g)
digit_up d g n bound true e b h = one_up d g n bound (eqb-true _ _ e) b h
digit_up d g n bound false e b h = zero_up d g n bound (let odd = eqb-false (bound % 2) 1 e in omega arith) b h

pub record ComparisonFacts (f : Cnf) (below : Option Lit) (digits : List Lit) (bound : ℕ) (r : Cnf × Option Lit) : Type 0 where
  pub extends : Extends f r.0
  pub in_range : IsTrue (option_below r.0.vars r.1)
  pub means : (vs : List Bool) → IsTrue (all_hold vs r.0.clauses) → Compared (found_value vs r.1) bound (number vs digits + bit (found_value vs below))

half_bound : (bound n : ℕ) → bound < 2 ^ suc n → bound / 2 < 2 ^ n
half_bound bound n h = let k : bound < 2 ^ n * 2 = rw (← pow-suc 2 n) h in omega arith

-- one digit, and then the others
then_others : (f : Cnf) (below : Option Lit) (digit : Lit) (digits : List Lit) (bound : ℕ) (s r : Cnf × Option Lit) → StepFacts f (eqb (bound % 2) 1) digit below s → ComparisonFacts s.0 s.1 digits (bound / 2) r → ComparisonFacts f below (digit ∷ digits) bound r
then_others f below digit digits bound s r one rest = record {
  extends = Extends-trans f s.0 r.0 one.extends rest.extends;
  in_range = rest.in_range;
  means =
      λ vs h.
      let first = one.means vs (kept-hold s.0 r.0 vs rest.extends h) in
      digit_up (value vs digit) (found_value vs below) (number vs digits) bound (eqb (bound % 2) 1) refl (found_value vs r.1) (subst (λ b. Compared (found_value vs r.1) (bound / 2) (number vs digits + bit b)) first (rest.means vs h));
}

pub comparison-facts : (f : Cnf) (below : Option Lit) (digits : List Lit) (bound : ℕ) → IsTrue (is_in_range f) → IsTrue (option_below f.vars below) → IsTrue (are_below f.vars digits) → bound < 2 ^ length digits → ComparisonFacts f below digits bound (with_comparison f below digits bound)
comparison-facts f below [] bound r hb hd small = record {
  extends = Extends-refl f r;
  in_range = hb;
  means = λ vs h. at_end (found_value vs below);
}
  where
    at_end : (b : Bool) → Compared b bound (0 + bit b)
    at_end true = omega arith
    at_end false = omega arith
comparison-facts f below (digit ∷ digits) bound r hb hd small =
    let parts = and_parts (is_below f.vars digit) (are_below f.vars digits) hd in
    let one = next-facts f below digit (eqb (bound % 2) 1) r hb parts.0 in
    let next = with_compared_digit f below digit (eqb (bound % 2) 1) in
    then_others f below digit digits bound next _ one (comparison-facts next.0 next.1 digits (bound / 2) one.extends.in_range one.in_range (are_below-mono f.vars next.0.vars one.extends.more_vars digits parts.1) (half_bound bound (length digits) small))

-- a number is below the power of its digits
pub number-lt : (vs : List Bool) (ls : List Lit) → number vs ls < 2 ^ length ls
number-lt vs [] = omega arith
number-lt vs (l ∷ ls) =
    let rest = number-lt vs ls in
    let digit = bit_le (value vs l) in
    let p = pow-suc 2 (length ls) in
    omega arith
  where
    bit_le : (b : Bool) → bit b ≤ 1
    bit_le true = omega arith
    bit_le false = omega arith

-- what the comparison keeps, allows and means
pub record AtLeastFacts (f : Cnf) (x : List Lit) (bound : ℕ) (r : Cnf × Lit) : Type 0 where
  pub extends : Extends f r.0
  pub below : IsTrue (is_below r.0.vars r.1)
  pub means : (vs : List Bool) → IsTrue (all_hold vs r.0.clauses) → MatchBool (value vs r.1) (bound ≤ number vs x) (number vs x < bound)

found-facts : (f g : Cnf) (o : Option Lit) (x : List Lit) (bound : ℕ) → ComparisonFacts f None x bound (g, o) → AtLeastFacts f x bound (with_found g o)
found-facts f g None x bound c = record {
  extends = Extends-trans f g (with_true g).0 c.extends (true-extends g c.extends.in_range);
  below = true-below g;
  means =
      λ vs h.
      let old = c.means vs (kept-hold g (with_true g).0 vs (true-extends g c.extends.in_range) h) in
      let yes : bound ≤ number vs x = omega arith in
      subst (λ b. MatchBool b (bound ≤ number vs x) (number vs x < bound)) (sym (true-means g vs h)) yes;
}
found-facts f g (Some l) x bound c = record {
  extends = c.extends;
  below = c.in_range;
  means = λ vs h. MatchBool-map (value vs l) (λ k. omega arith) (λ k. omega arith) (c.means vs h);
}

too_large : (f : Cnf) (x : List Lit) (bound : ℕ) → 2 ^ length x ≤ bound → with_at_least f x bound ≡ with_false f
unfolding with_at_least
too_large f x bound h = cond-true (leb (2 ^ length x) bound) _ _ (le-leb _ _ h)

within : (f : Cnf) (x : List Lit) (bound : ℕ) → bound < 2 ^ length x → with_at_least f x bound ≡ with_found (with_comparison f None x bound).0 (with_comparison f None x bound).1
unfolding with_at_least
within f x bound h = cond-false (leb (2 ^ length x) bound) _ _ (lt-leb _ _ h)

pub at_least-facts : (f : Cnf) (x : List Lit) (bound : ℕ) → IsTrue (is_in_range f) → IsTrue (are_below f.vars x) → AtLeastFacts f x bound (with_at_least f x bound)
at_least-facts f x bound r hx =
    elim (cases_lt bound (2 ^ length x)) [
      | inl h ↦
          let c = with_comparison f None x bound in
          subst (λ a. AtLeastFacts f x bound a) (sym (within f x bound h)) (found-facts f c.0 c.1 x bound (comparison-facts f None x bound r refl hx h))
      | inr h ↦
          subst (λ a. AtLeastFacts f x bound a) (sym (too_large f x bound h)) (record {
            extends = false-extends f r;
            below = false-below f;
            means =
                λ vs k.
                let small = number-lt vs x in
                let no : number vs x < bound = omega arith in
                subst (λ b. MatchBool b (bound ≤ number vs x) (number vs x < bound)) (sym (false-means f vs k)) no;
          })
    ]
