-- What the sum of columns and the adder keep, allow and mean.
use Rattle.std.proofs.Common.{◌≡◌, ◌+◌, ◌*◌, ◌^◌, ◌≤◌, ℕ, suc, max, Bool, true, ◌&&◌, IsTrue, List, [], ◌∷◌, ◌++◌, Option, None, Some, length, refl, ap, ◌∙◌, zero-add, arith}
use Rattle.std.proofs.Math.Nat.{pow-suc}
use Rattle.std.proofs.lemmas.Bool.{and_parts, and_from}
use Rattle.std.proofs.lemmas.List.{length-append}
use Rattle.cnf.specs.declared.lit.Lit.{Lit}
use Rattle.cnf.specs.Cnf.{Cnf, is_in_range}
use Rattle.cnf.specs.Gates.{Extends}
use Rattle.cnf.specs.Lits.{is_below, are_below}
use Rattle.cnf.specs.Sums.{bit, number, option_below, columns_below, Sums, with_cell, with_columns, columns, with_carry, with_adder}
use Rattle.cnf.specs.Values.{value, all_hold}
use Rattle.cnf.proofs.LitLemmas.{is_below-mono, are_below-mono, list_all-append-from}
use Rattle.cnf.proofs.ExtensionLemmas.{Extends-refl, Extends-trans, kept-hold}
use Rattle.cnf.proofs.GateLemmas.{false-extends, false-below, false-means}
use Rattle.cnf.proofs.CellLemmas.{option_bit, option_below-mono, cell-facts}

-- what columns add up to, and their range
abbrev pub columns_number : List Bool → List (Lit × Option Lit) → ℕ
columns_number vs [] = 0
columns_number vs (c ∷ cs) = bit (value vs c.0) + option_bit vs c.1 + 2 * columns_number vs cs

abbrev pub column_below : ℕ → Lit × Option Lit → Bool
column_below n c = is_below n c.0 && option_below n c.1

pub columns_below-mono : (m n : ℕ) → m ≤ n → (cs : List (Lit × Option Lit)) → IsTrue (columns_below m cs) → IsTrue (columns_below n cs)
columns_below-mono m n h [] b = refl
columns_below-mono m n h (c ∷ cs) b =
    let parts = and_parts (column_below m c) (columns_below m cs) b in
    let two = and_parts (is_below m c.0) (option_below m c.1) parts.0 in
    and_from _ _ (and_from _ _ (is_below-mono m n h c.0 two.0) (option_below-mono m n h c.1 two.1)) (columns_below-mono m n h cs parts.1)

pub record SumsFacts (f : Cnf) (carry : Option Lit) (cs : List (Lit × Option Lit)) (r : Sums) : Type 0 where
  pub extends : Extends f r.formula
  pub sums_below : IsTrue (are_below r.formula.vars r.sums)
  pub carry_below : IsTrue (option_below r.formula.vars r.carry)
  pub sums_length : length r.sums ≡ length cs
  pub means : (vs : List Bool) → IsTrue (all_hold vs r.formula.clauses) → number vs r.sums + 2 ^ length cs * option_bit vs r.carry ≡ option_bit vs carry + columns_number vs cs

-- one digit in front of the others
digits : (s d x y z rest p last more : ℕ) → s + 2 * d ≡ x + y + z → rest + p * last ≡ d + more → (s + 2 * rest) + (p * 2) * last ≡ z + (x + y + 2 * more)
digits s d x y z rest p last more one others = grind arith

pub columns-facts : (f : Cnf) (carry : Option Lit) (cs : List (Lit × Option Lit)) → IsTrue (is_in_range f) → IsTrue (option_below f.vars carry) → IsTrue (columns_below f.vars cs) → SumsFacts f carry cs (with_columns f carry cs)
columns-facts f carry [] r hc hs = record {
  extends = Extends-refl f r;
  sums_below = refl;
  carry_below = hc;
  sums_length = refl;
  means = λ vs h. omega arith;
}
columns-facts f carry (c ∷ cs) r hc hs =
    let parts = and_parts (column_below f.vars c) (columns_below f.vars cs) hs in
    let two = and_parts (is_below f.vars c.0) (option_below f.vars c.1) parts.0 in
    let one = cell-facts f c.0 c.1 carry r two.0 two.1 hc in
    let cell = with_cell f c.0 c.1 carry in
    let others = columns-facts cell.formula cell.carry cs one.extends.in_range one.carry_below (columns_below-mono f.vars cell.formula.vars one.extends.more_vars cs parts.1) in
    let rest = with_columns cell.formula cell.carry cs in
    record {
      extends = Extends-trans f cell.formula rest.formula one.extends others.extends;
      sums_below =
          and_from _ _ (is_below-mono cell.formula.vars rest.formula.vars others.extends.more_vars cell.sum one.sum_below) others.sums_below;
      carry_below = others.carry_below;
      sums_length = ap suc others.sums_length;
      means =
          λ vs h.
          let first = one.means vs (kept-hold cell.formula rest.formula vs others.extends h) in
          let after = others.means vs h in
          rw pow-suc (digits (bit (value vs cell.sum)) (option_bit vs cell.carry) (bit (value vs c.0)) (option_bit vs c.1) (option_bit vs carry) (number vs rest.sums) (2 ^ length cs) (option_bit vs rest.carry) (columns_number vs cs) first after);
    }

pub columns_number-sum : (vs : List Bool) (x y : List Lit) → columns_number vs (columns x y) ≡ number vs x + number vs y
columns_number-sum vs [] [] = omega arith
columns_number-sum vs [] (y ∷ ys) = let rest = columns_number-sum vs [] ys in omega arith
columns_number-sum vs (x ∷ xs) [] = let rest = columns_number-sum vs xs [] in omega arith
columns_number-sum vs (x ∷ xs) (y ∷ ys) = let rest = columns_number-sum vs xs ys in omega arith

pub columns_below-both : (n : ℕ) (x y : List Lit) → IsTrue (are_below n x) → IsTrue (are_below n y) → IsTrue (columns_below n (columns x y))
columns_below-both n [] [] hx hy = refl
columns_below-both n [] (y ∷ ys) hx hy =
    let parts = and_parts (is_below n y) (are_below n ys) hy in
    and_from _ _ (and_from _ true parts.0 refl) (columns_below-both n [] ys refl parts.1)
columns_below-both n (x ∷ xs) [] hx hy =
    let parts = and_parts (is_below n x) (are_below n xs) hx in
    and_from _ _ (and_from _ true parts.0 refl) (columns_below-both n xs [] parts.1 refl)
columns_below-both n (x ∷ xs) (y ∷ ys) hx hy =
    let one = and_parts (is_below n x) (are_below n xs) hx in
    let two = and_parts (is_below n y) (are_below n ys) hy in
    and_from _ _ (and_from _ _ one.0 two.0) (columns_below-both n xs ys one.1 two.1)

pub length-columns : (x y : List Lit) → length (columns x y) ≡ max (length x) (length y)
length-columns [] [] = refl
length-columns [] (y ∷ ys) = let rest = length-columns [] ys in omega arith
length-columns (x ∷ xs) [] = let rest = length-columns xs [] in omega arith
length-columns (x ∷ xs) (y ∷ ys) = let rest = length-columns xs ys in omega arith

pub record CarryFacts (f : Cnf) (carry : Option Lit) (r : Cnf × Lit) : Type 0 where
  pub extends : Extends f r.0
  pub below : IsTrue (is_below r.0.vars r.1)
  pub means : (vs : List Bool) → IsTrue (all_hold vs r.0.clauses) → bit (value vs r.1) ≡ option_bit vs carry

pub carry-facts : (f : Cnf) (carry : Option Lit) → IsTrue (is_in_range f) → IsTrue (option_below f.vars carry) → CarryFacts f carry (with_carry f carry)
carry-facts f None r h = record {
  extends = false-extends f r;
  below = false-below f;
  means = λ vs k. ap bit (false-means f vs k);
}
carry-facts f (Some l) r h = record {
  extends = Extends-refl f r;
  below = h;
  means = λ vs k. refl;
}

number-append : (vs : List Bool) (xs : List Lit) (l : Lit) → number vs (xs ++ l ∷ []) ≡ number vs xs + 2 ^ length xs * bit (value vs l)
number-append vs [] l = omega arith
number-append vs (x ∷ xs) l =
    let rest = number-append vs xs l in
    rw pow-suc (shift (bit (value vs x)) (number vs xs) (2 ^ length xs) (bit (value vs l)) (number vs (xs ++ l ∷ [])) rest)
  where
    shift : (a n p b m : ℕ) → m ≡ n + p * b → a + 2 * m ≡ (a + 2 * n) + (p * 2) * b
    shift a n p b m e = grind arith

-- what the adder keeps, allows and means
pub record AdderFacts (f : Cnf) (x y : List Lit) (r : Cnf × List Lit) : Type 0 where
  pub extends : Extends f r.0
  pub below : IsTrue (are_below r.0.vars r.1)
  pub digits : length r.1 ≡ max (length x) (length y) + 1
  pub means : (vs : List Bool) → IsTrue (all_hold vs r.0.clauses) → number vs r.1 ≡ number vs x + number vs y

pub adder-facts : (f : Cnf) (x y : List Lit) → IsTrue (is_in_range f) → IsTrue (are_below f.vars x) → IsTrue (are_below f.vars y) → AdderFacts f x y (with_adder f x y)
unfolding with_adder
adder-facts f x y r hx hy =
    let cs = columns x y in
    let below = with_columns f None cs in
    let s = columns-facts f None cs r refl (columns_below-both f.vars x y hx hy) in
    let t = carry-facts below.formula below.carry s.extends.in_range s.carry_below in
    let top = with_carry below.formula below.carry in
    record {
      extends = Extends-trans f below.formula top.0 s.extends t.extends;
      below =
          list_all-append-from (is_below top.0.vars) below.sums (top.1 ∷ []) (are_below-mono below.formula.vars top.0.vars t.extends.more_vars below.sums s.sums_below) (and_from _ true t.below refl);
      digits = omega (arith, length-append below.sums (top.1 ∷ []), s.sums_length, length-columns x y);
      means =
          λ vs h.
          let sum = s.means vs (kept-hold below.formula top.0 vs t.extends h) in
          let last = t.means vs h in
          number-append vs below.sums top.1
          ∙ (ap (λ n. number vs below.sums + 2 ^ n * bit (value vs top.1)) s.sums_length
          ∙ (ap (λ b. number vs below.sums + 2 ^ length cs * b) last
          ∙ (sum ∙ (zero-add _ ∙ columns_number-sum vs x y))));
    }

length-sums : (f : Cnf) (carry : Option Lit) (cs : List (Lit × Option Lit)) → length (with_columns f carry cs).sums ≡ length cs
length-sums f carry [] = refl
length-sums f carry (c ∷ cs) =
    let cell = with_cell f c.0 c.1 carry in ap suc (length-sums cell.formula cell.carry cs)

pub length-adder : (f : Cnf) (x y : List Lit) → length (with_adder f x y).1 ≡ max (length x) (length y) + 1
unfolding with_adder
length-adder f x y =
    let below = with_columns f None (columns x y) in
    let top = with_carry below.formula below.carry in
    omega (arith, length-append below.sums (top.1 ∷ []), length-sums f None (columns x y), length-columns x y)
