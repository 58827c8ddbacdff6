-- The literals that the gates give have variables of their formulas.
use Rattle.std.proofs.Common.{◌+◌, ◌-◌, ◌%◌, ◌/◌, ◌^◌, ℕ, Bool, true, false, cond, eqb, leb, ltb, ◌&&◌, IsTrue, Option, None, Some, List, [], ◌∷◌, length, take, refl, arith}
use Rattle.std.proofs.lemmas.Bool.{and_parts, and_from}
use Rattle.cnf.specs.declared.lit.Lit.{Lit}
use Rattle.cnf.specs.Cnf.{Cnf}
use Rattle.cnf.specs.Gates.{with_false}
use Rattle.cnf.specs.Lits.{is_below, are_below}
use Rattle.cnf.specs.Numbers.{with_compared_digit, with_comparison, with_found, with_at_least, remainder_digits, scaled_columns, with_reduced, Divided, with_next_digit, with_division}
use Rattle.cnf.specs.Sums.{option_below, columns_below, with_half_adder, with_full_adder, with_cell, with_columns, columns, with_carry, with_adder}
use Rattle.cnf.proofs.ComparisonCode.{compared_digit-below}
use Rattle.cnf.proofs.DivisionLemmas.{scaled-below}
use Rattle.cnf.proofs.GateLemmas.{true-below, false-below}
use Rattle.cnf.proofs.GrowLemmas.{cell_carry-below, carry-grows, cell-grows, columns-grows, compared_digit-grows, at_least-grows, reduced-grows, division-grows}
use Rattle.cnf.proofs.LitLemmas.{is_below-positive, is_below-mono, are_below-mono, are_below-take, list_all-append-from}
use Rattle.cnf.proofs.SumLemmas.{columns_below-mono, columns_below-both}

-- the literals that the parts give have variables of the formula
found-below : (f : Cnf) (o : Option Lit) → IsTrue (option_below f.vars o) → IsTrue (is_below (with_found f o).0.vars (with_found f o).1)
found-below f None h = true-below f
found-below f (Some l) h = h

comparison-below : (f : Cnf) (below : Option Lit) (digits : List Lit) (bound : ℕ) → IsTrue (option_below f.vars below) → IsTrue (are_below f.vars digits) → IsTrue (option_below (with_comparison f below digits bound).0.vars (with_comparison f below digits bound).1)
comparison-below f below [] bound hb hd = hb
comparison-below f below (digit ∷ digits) bound hb hd =
    let parts = and_parts (is_below f.vars digit) (are_below f.vars digits) hd in
    let one = eqb (bound % 2) 1 in
    let next = with_compared_digit f below digit one in
    comparison-below next.0 next.1 digits (bound / 2) (compared_digit-below f below digit one parts.0) (are_below-mono f.vars next.0.vars (compared_digit-grows f below digit one) digits parts.1)

by_test : (b : Bool) (x y : Cnf × Lit) → IsTrue (is_below x.0.vars x.1) → IsTrue (is_below y.0.vars y.1) → IsTrue (is_below (cond b x y).0.vars (cond b x y).1)
by_test true x y h k = h
by_test false x y h k = k

pub at_least-below : (f : Cnf) (x : List Lit) (bound : ℕ) → IsTrue (are_below f.vars x) → IsTrue (is_below (with_at_least f x bound).0.vars (with_at_least f x bound).1)
unfolding with_at_least
at_least-below f x bound h =
    let all = with_comparison f None x bound in
    by_test (leb (2 ^ length x) bound) (with_false f) (with_found all.0 all.1) (false-below f) (found-below all.0 all.1 (comparison-below f None x bound refl h))

half_sum-below : (f : Cnf) (x y : Lit) → IsTrue (is_below (with_half_adder f x y).formula.vars (with_half_adder f x y).sum)
unfolding with_half_adder
half_sum-below f x y = is_below-positive (f.vars + 2) f.vars (omega arith)

full_sum-below : (f : Cnf) (x y z : Lit) → IsTrue (is_below (with_full_adder f x y z).formula.vars (with_full_adder f x y z).sum)
unfolding with_full_adder
full_sum-below f x y z = is_below-positive (f.vars + 2) f.vars (omega arith)

cell_sum-below : (f : Cnf) (x : Lit) (y z : Option Lit) → IsTrue (is_below f.vars x) → IsTrue (is_below (with_cell f x y z).formula.vars (with_cell f x y z).sum)
cell_sum-below f x None None h = h
cell_sum-below f x None (Some z) h = half_sum-below f x z
cell_sum-below f x (Some y) None h = half_sum-below f x y
cell_sum-below f x (Some y) (Some z) h = full_sum-below f x y z

sums-below : (f : Cnf) (carry : Option Lit) (cs : List (Lit × Option Lit)) → IsTrue (columns_below f.vars cs) → IsTrue (are_below (with_columns f carry cs).formula.vars (with_columns f carry cs).sums)
sums-below f carry [] h = refl
sums-below f carry (c ∷ cs) h =
    let parts = and_parts (is_below f.vars c.0 && option_below f.vars c.1) (columns_below f.vars cs) h in
    let first = (and_parts (is_below f.vars c.0) (option_below f.vars c.1) parts.0).0 in
    let cell = with_cell f c.0 c.1 carry in
    let rest = with_columns cell.formula cell.carry cs in
    let later = columns_below-mono f.vars cell.formula.vars (cell-grows f c.0 c.1 carry) cs parts.1 in
    and_from _ _ (is_below-mono cell.formula.vars rest.formula.vars (columns-grows cell.formula cell.carry cs) cell.sum (cell_sum-below f c.0 c.1 carry first)) (sums-below cell.formula cell.carry cs later)

by_length : (b : Bool) (x y : Cnf × List Lit) → IsTrue (are_below x.0.vars x.1) → IsTrue (are_below y.0.vars y.1) → IsTrue (are_below (cond b x y).0.vars (cond b x y).1)
by_length true x y h k = h
by_length false x y h k = k

pub reduced-below : (f : Cnf) (fits : Lit) (x : List Lit) (by : ℕ) → IsTrue (is_below f.vars fits) → IsTrue (are_below f.vars x) → IsTrue (are_below (with_reduced f fits x by).0.vars (with_reduced f fits x by).1)
unfolding with_reduced
reduced-below f fits x by hf hx =
    let n = remainder_digits by in
    let cs = scaled_columns fits (2 ^ n - by) (take n x) in
    let sum = with_columns f None cs in
    by_length (ltb (length x) n) (f, x) (sum.formula, sum.sums) hx (sums-below f None cs (scaled-below f.vars fits (2 ^ n - by) (take n x) hf (are_below-take f.vars n x hx)))

columns_carry-below : (f : Cnf) (carry : Option Lit) (cs : List (Lit × Option Lit)) → IsTrue (option_below f.vars carry) → IsTrue (option_below (with_columns f carry cs).formula.vars (with_columns f carry cs).carry)
columns_carry-below f carry [] h = h
columns_carry-below f carry (c ∷ cs) h =
    let cell = with_cell f c.0 c.1 carry in
    columns_carry-below cell.formula cell.carry cs (cell_carry-below f c.0 c.1 carry)

carry-below : (f : Cnf) (carry : Option Lit) → IsTrue (option_below f.vars carry) → IsTrue (is_below (with_carry f carry).0.vars (with_carry f carry).1)
carry-below f None h = false-below f
carry-below f (Some l) h = h

pub adder-below : (f : Cnf) (x y : List Lit) → IsTrue (are_below f.vars x) → IsTrue (are_below f.vars y) → IsTrue (are_below (with_adder f x y).0.vars (with_adder f x y).1)
unfolding with_adder
adder-below f x y hx hy =
    let cs = columns x y in
    let sum = with_columns f None cs in
    let top = with_carry sum.formula sum.carry in
    let sums = sums-below f None cs (columns_below-both f.vars x y hx hy) in
    let last = carry-below sum.formula sum.carry (columns_carry-below f None cs refl) in
    list_all-append-from (is_below top.0.vars) sum.sums (top.1 ∷ []) (are_below-mono sum.formula.vars top.0.vars (carry-grows sum.formula sum.carry) sum.sums sums) (and_from _ true last refl)

pub record DivisionBelow (r : Divided) : Type 0 where
  pub quotient_below : IsTrue (are_below r.formula.vars r.quotient)
  pub remainder_below : IsTrue (are_below r.formula.vars r.remainder)

next-below : (d : Divided) (digit : Lit) (by : ℕ) → IsTrue (is_below d.formula.vars digit) → DivisionBelow d → DivisionBelow (with_next_digit d digit by)
unfolding with_next_digit
next-below d digit by h old =
    let x = digit ∷ d.remainder in
    let hx : IsTrue (are_below d.formula.vars x) = and_from _ _ h old.remainder_below in
    let fits = with_at_least d.formula x by in
    let up = at_least-grows d.formula x by in
    let fits_below = at_least-below d.formula x by hx in
    let rest = with_reduced fits.0 fits.1 x by in
    let more_up = reduced-grows fits.0 fits.1 x by in
    record {
      quotient_below =
          and_from _ _ (is_below-mono fits.0.vars rest.0.vars more_up fits.1 fits_below) (are_below-mono d.formula.vars rest.0.vars (omega arith) d.quotient old.quotient_below);
      remainder_below = reduced-below fits.0 fits.1 x by fits_below (are_below-mono d.formula.vars fits.0.vars up x hx);
    }

pub division-below : (f : Cnf) (x : List Lit) (by : ℕ) → IsTrue (are_below f.vars x) → DivisionBelow (with_division f x by)
division-below f [] by h = record { quotient_below = refl; remainder_below = refl }
division-below f (digit ∷ digits) by h =
    let parts = and_parts (is_below f.vars digit) (are_below f.vars digits) h in
    let d = with_division f digits by in
    next-below d digit by (is_below-mono f.vars d.formula.vars (division-grows f digits by) digit parts.0) (division-below f digits by parts.1)
