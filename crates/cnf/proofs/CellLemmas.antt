-- What half and full adders keep, allow and mean.
use Rattle.std.proofs.Common.{◌≡◌, ◌+◌, ◌*◌, ◌≤◌, ℕ, Bool, true, false, not, eqb, ◌&&◌, ◌||◌, IsTrue, List, [], ◌∷◌, ◌++◌, Option, None, Some, refl, sym, ap, ◌∙◌, arith}
use Rattle.std.specs.List.{list_all}
use Rattle.std.proofs.lemmas.Bool.{and_parts, eqb-true, false≢true}
use Rattle.cnf.specs.declared.lit.Lit.{Lit}
use Rattle.cnf.specs.Cnf.{Cnf, is_in_range}
use Rattle.cnf.specs.Gates.{Extends}
use Rattle.cnf.specs.Lits.{negation, positive, is_below, are_below}
use Rattle.cnf.specs.Sums.{bit, option_below, Cell, half_adder_clauses, full_adder_clauses, with_half_adder, with_full_adder, with_cell}
use Rattle.cnf.specs.Values.{value, holds, all_hold}
use Rattle.cnf.proofs.LitLemmas.{value-negation, value-positive, value-append, is_below-negation, is_below-positive, is_below-mono, list_all-append-parts}
use Rattle.cnf.proofs.ExtensionLemmas.{Extends-refl, extends-by, value-first, value-second}

-- a test of every truth value
abbrev at_each : (Bool → Bool) → Bool
at_each p = p true && p false

at_one : (p : Bool → Bool) → IsTrue (at_each p) → (b : Bool) → IsTrue (p b)
at_one p h true = (and_parts (p true) (p false) h).0
at_one p h false = (and_parts (p true) (p false) h).1

-- the four literals of a half adder, as variables of a list of their values
abbrev half_table : Bool → Bool → Bool → Bool → Bool
half_table x y s c = all_hold (x ∷ y ∷ s ∷ c ∷ []) (half_adder_clauses (positive 0) (positive 1) (positive 2) (positive 3))

half-value : (vs : List Bool) (x y s c : Lit) → all_hold vs (half_adder_clauses x y s c) ≡ half_table (value vs x) (value vs y) (value vs s) (value vs c)
unfolding half_adder_clauses
half-value vs x y s c = simp (value-negation, value-positive)

abbrev implies : Bool → Bool → Bool
implies a b = not a || b

use_implies : (a b : Bool) → IsTrue (implies a b) → IsTrue a → IsTrue b
use_implies true b h t = h
use_implies false b h t = absurd (false≢true t)

half-mean : (x y s c : Bool) → IsTrue (half_table x y s c) → bit s + 2 * bit c ≡ bit x + bit y
unfolding half_adder_clauses value negation positive
half-mean x y s c h =
    let P = λ (x : Bool) (y : Bool) (s : Bool) (c : Bool). implies (half_table x y s c) (eqb (bit s + 2 * bit c) (bit x + bit y)) in
    let at_x = at_one (λ x. at_each (λ y. at_each (λ s. at_each (λ c. P x y s c)))) refl x in
    let at_y = at_one (λ y. at_each (λ s. at_each (λ c. P x y s c))) at_x y in
    let at_s = at_one (λ s. at_each (λ c. P x y s c)) at_y s in
    let at_c = at_one (λ c. P x y s c) at_s c in
    eqb-true _ _ (use_implies _ _ at_c h)

-- the values of its fresh literals
abbrev xor : Bool → Bool → Bool
xor true b = not b
xor false b = b

half-hold : (x y : Bool) → IsTrue (half_table x y (xor x y) (x && y))
unfolding half_adder_clauses value negation positive
half-hold true true = refl
half-hold true false = refl
half-hold false true = refl
half-hold false false = refl

abbrev full_table : Bool → Bool → Bool → Bool → Bool → Bool
full_table x y z s c =
    all_hold (x ∷ y ∷ z ∷ s ∷ c ∷ []) (full_adder_clauses (positive 0) (positive 1) (positive 2) (positive 3) (positive 4))

full-value : (vs : List Bool) (x y z s c : Lit) → all_hold vs (full_adder_clauses x y z s c) ≡ full_table (value vs x) (value vs y) (value vs z) (value vs s) (value vs c)
unfolding full_adder_clauses
full-value vs x y z s c = simp (value-negation, value-positive)

full-mean : (x y z s c : Bool) → IsTrue (full_table x y z s c) → bit s + 2 * bit c ≡ bit x + bit y + bit z
unfolding full_adder_clauses value negation positive
full-mean x y z s c h =
    let P = λ (x : Bool) (y : Bool) (z : Bool) (s : Bool) (c : Bool). implies (full_table x y z s c) (eqb (bit s + 2 * bit c) (bit x + bit y + bit z)) in
    let at_x = at_one (λ x. at_each (λ y. at_each (λ z. at_each (λ s. at_each (λ c. P x y z s c))))) refl x in
    let at_y = at_one (λ y. at_each (λ z. at_each (λ s. at_each (λ c. P x y z s c)))) at_x y in
    let at_z = at_one (λ z. at_each (λ s. at_each (λ c. P x y z s c))) at_y z in
    let at_s = at_one (λ s. at_each (λ c. P x y z s c)) at_z s in
    let at_c = at_one (λ c. P x y z s c) at_s c in
    eqb-true _ _ (use_implies _ _ at_c h)

abbrev majority : Bool → Bool → Bool → Bool
majority true y z = y || z
majority false y z = y && z

full-hold : (x y z : Bool) → IsTrue (full_table x y z (xor x (xor y z)) (majority x y z))
unfolding full_adder_clauses value negation positive
full-hold true true true = refl
full-hold true true false = refl
full-hold true false true = refl
full-hold true false false = refl
full-hold false true true = refl
full-hold false true false = refl
full-hold false false true = refl
full-hold false false false = refl

-- clauses of literals that are below
half-below : (n : ℕ) (x y s c : Lit) → IsTrue (is_below n x) → IsTrue (is_below n y) → IsTrue (is_below n s) → IsTrue (is_below n c) → IsTrue (list_all (are_below n) (half_adder_clauses x y s c))
unfolding half_adder_clauses
half-below n x y s c hx hy hs hc =
    let nx = is_below-negation n x hx in
    let ny = is_below-negation n y hy in
    let ns = is_below-negation n s hs in
    let nc = is_below-negation n c hc in
    simp (hx, hy, hs, hc, nx, ny, ns, nc)

full-below : (n : ℕ) (x y z s c : Lit) → IsTrue (is_below n x) → IsTrue (is_below n y) → IsTrue (is_below n z) → IsTrue (is_below n s) → IsTrue (is_below n c) → IsTrue (list_all (are_below n) (full_adder_clauses x y z s c))
unfolding full_adder_clauses
full-below n x y z s c hx hy hz hs hc =
    let nx = is_below-negation n x hx in
    let ny = is_below-negation n y hy in
    let nz = is_below-negation n z hz in
    let ns = is_below-negation n s hs in
    let nc = is_below-negation n c hc in
    simp (hx, hy, hz, hs, hc, nx, ny, nz, ns, nc)

-- an optional literal as a digit
abbrev pub option_bit : List Bool → Option Lit → ℕ
option_bit vs None = 0
option_bit vs (Some l) = bit (value vs l)

pub option_below-mono : (m n : ℕ) → m ≤ n → (o : Option Lit) → IsTrue (option_below m o) → IsTrue (option_below n o)
option_below-mono m n h None b = refl
option_below-mono m n h (Some l) b = is_below-mono m n h l b

-- what a cell keeps, allows and means
pub record CellFacts (f : Cnf) (total : List Bool → ℕ) (r : Cell) : Type 0 where
  pub extends : Extends f r.formula
  pub sum_below : IsTrue (is_below r.formula.vars r.sum)
  pub carry_below : IsTrue (option_below r.formula.vars r.carry)
  pub means : (vs : List Bool) → IsTrue (all_hold vs r.formula.clauses) → bit (value vs r.sum) + 2 * option_bit vs r.carry ≡ total vs

half-facts : (f : Cnf) (x y : Lit) → IsTrue (is_in_range f) → IsTrue (is_below f.vars x) → IsTrue (is_below f.vars y) → CellFacts f (λ vs. bit (value vs x) + bit (value vs y)) (with_half_adder f x y)
unfolding with_half_adder
half-facts f x y r hx hy =
    let s = positive f.vars in
    let c = positive (f.vars + 1) in
    let n = f.vars + 2 in
    let up = is_below-mono f.vars n (omega arith) in
    let hs = is_below-positive n f.vars (omega arith) in
    let hc = is_below-positive n (f.vars + 1) (omega arith) in
    record {
      extends = extends-by f 2 (half_adder_clauses x y s c) r (half-below n x y s c (up x hx) (up y hy) hs hc) (λ vs e.
          let a = value vs x in
          let b = value vs y in
          let more = xor a b ∷ (a && b) ∷ [] in (
            more,
            refl,
            half-value (vs ++ more) x y s c
                ∙ (ap (λ v. half_table v (value (vs ++ more) y) (value (vs ++ more) s) (value (vs ++ more) c)) (value-append vs more x (rw e hx))
                ∙ (ap (λ v. half_table a v (value (vs ++ more) s) (value (vs ++ more) c)) (value-append vs more y (rw e hy))
                ∙ (ap (λ v. half_table a b v (value (vs ++ more) c)) (value-first vs ((a && b) ∷ []) (xor a b) f.vars e)
                ∙ (ap (λ v. half_table a b (xor a b) v) (value-second vs [] (xor a b) (a && b) f.vars e) ∙ half-hold a b)))),
          ));
      sum_below = hs;
      carry_below = hc;
      means =
          λ vs h.
          let new = (list_all-append-parts (holds vs) f.clauses (half_adder_clauses x y s c) h).1 in
          half-mean (value vs x) (value vs y) (value vs s) (value vs c) (sym (half-value vs x y s c) ∙ new);
    }

full-facts : (f : Cnf) (x y z : Lit) → IsTrue (is_in_range f) → IsTrue (is_below f.vars x) → IsTrue (is_below f.vars y) → IsTrue (is_below f.vars z) → CellFacts f (λ vs. bit (value vs x) + bit (value vs y) + bit (value vs z)) (with_full_adder f x y z)
unfolding with_full_adder
full-facts f x y z r hx hy hz =
    let s = positive f.vars in
    let c = positive (f.vars + 1) in
    let n = f.vars + 2 in
    let up = is_below-mono f.vars n (omega arith) in
    let hs = is_below-positive n f.vars (omega arith) in
    let hc = is_below-positive n (f.vars + 1) (omega arith) in
    record {
      extends = extends-by f 2 (full_adder_clauses x y z s c) r (full-below n x y z s c (up x hx) (up y hy) (up z hz) hs hc) (λ vs e.
          let a = value vs x in
          let b = value vs y in
          let d = value vs z in
          let sum = xor a (xor b d) in
          let most = majority a b d in
          let more = sum ∷ most ∷ [] in (
            more,
            refl,
            full-value (vs ++ more) x y z s c
                ∙ (ap (λ v. full_table v (value (vs ++ more) y) (value (vs ++ more) z) (value (vs ++ more) s) (value (vs ++ more) c)) (value-append vs more x (rw e hx))
                ∙ (ap (λ v. full_table a v (value (vs ++ more) z) (value (vs ++ more) s) (value (vs ++ more) c)) (value-append vs more y (rw e hy))
                ∙ (ap (λ v. full_table a b v (value (vs ++ more) s) (value (vs ++ more) c)) (value-append vs more z (rw e hz))
                ∙ (ap (λ v. full_table a b d v (value (vs ++ more) c)) (value-first vs (most ∷ []) sum f.vars e)
                ∙ (ap (λ v. full_table a b d sum v) (value-second vs [] sum most f.vars e) ∙ full-hold a b d))))),
          ));
      sum_below = hs;
      carry_below = hc;
      means =
          λ vs h.
          let new = (list_all-append-parts (holds vs) f.clauses (full_adder_clauses x y z s c) h).1 in
          full-mean (value vs x) (value vs y) (value vs z) (value vs s) (value vs c) (sym (full-value vs x y z s c) ∙ new);
    }

pub cell-facts : (f : Cnf) (x : Lit) (y z : Option Lit) → IsTrue (is_in_range f) → IsTrue (is_below f.vars x) → IsTrue (option_below f.vars y) → IsTrue (option_below f.vars z) → CellFacts f (λ vs. bit (value vs x) + option_bit vs y + option_bit vs z) (with_cell f x y z)
cell-facts f x None None r hx hy hz = record {
  extends = Extends-refl f r;
  sum_below = hx;
  carry_below = refl;
  means = λ vs h. omega arith;
}
cell-facts f x None (Some z) r hx hy hz =
    let c = half-facts f x z r hx hz in
    record {
      extends = c.extends;
      sum_below = c.sum_below;
      carry_below = c.carry_below;
      means = λ vs h. omega (arith, c.means vs h);
    }
cell-facts f x (Some y) None r hx hy hz =
    let c = half-facts f x y r hx hy in
    record {
      extends = c.extends;
      sum_below = c.sum_below;
      carry_below = c.carry_below;
      means = λ vs h. omega (arith, c.means vs h);
    }
cell-facts f x (Some y) (Some z) r hx hy hz = full-facts f x y z r hx hy hz
