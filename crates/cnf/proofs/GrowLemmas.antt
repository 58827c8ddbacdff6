-- No step of a gate has more variables than the gate's formula.
use Rattle.std.proofs.Common.{◌≡◌, ◌+◌, ◌-◌, ◌^◌, ◌≤◌, ℕ, ◌%◌, ◌/◌, Bool, true, false, cond, eqb, leb, ltb, IsTrue, List, [], ◌∷◌, Option, None, Some, length, take, refl, arith}
use Rattle.cnf.specs.declared.lit.Lit.{Lit}
use Rattle.cnf.specs.Cnf.{Cnf}
use Rattle.cnf.specs.Gates.{with_and_gate, with_or_gate, with_true, with_false}
use Rattle.cnf.specs.Numbers.{with_digit, with_compared_digit, with_comparison, with_found, with_at_least, remainder_digits, scaled_columns, with_reduced, Divided, with_next_digit, with_division}
use Rattle.cnf.specs.Sums.{with_half_adder, with_full_adder, with_cell, with_columns, columns, with_carry, with_adder, option_below}
use Rattle.cnf.proofs.LitLemmas.{is_below-positive}

pub half_adder-grows : (f : Cnf) (x y : Lit) → (with_half_adder f x y).formula.vars ≡ f.vars + 2
unfolding with_half_adder
half_adder-grows f x y = refl

pub full_adder-grows : (f : Cnf) (x y z : Lit) → (with_full_adder f x y z).formula.vars ≡ f.vars + 2
unfolding with_full_adder
full_adder-grows f x y z = refl

pub cell-grows : (f : Cnf) (x : Lit) (y z : Option Lit) → f.vars ≤ (with_cell f x y z).formula.vars
cell-grows f x None None = omega arith
cell-grows f x None (Some z) = omega (arith, half_adder-grows f x z)
cell-grows f x (Some y) None = omega (arith, half_adder-grows f x y)
cell-grows f x (Some y) (Some z) = omega (arith, full_adder-grows f x y z)

pub columns-grows : (f : Cnf) (carry : Option Lit) (cs : List (Lit × Option Lit)) → f.vars ≤ (with_columns f carry cs).formula.vars
columns-grows f carry [] = omega arith
columns-grows f carry (c ∷ cs) =
    let cell = with_cell f c.0 c.1 carry in
    let one = cell-grows f c.0 c.1 carry in
    let rest = columns-grows cell.formula cell.carry cs in
    omega arith

pub true-grows : (f : Cnf) → (with_true f).0.vars ≡ f.vars + 1
unfolding with_true
true-grows f = refl

pub false-grows : (f : Cnf) → (with_false f).0.vars ≡ f.vars + 1
unfolding with_false
false-grows f = refl

pub and_gate-grows : (f : Cnf) (ls : List Lit) → (with_and_gate f ls).0.vars ≡ f.vars + 1
unfolding with_and_gate
and_gate-grows f ls = refl

pub or_gate-grows : (f : Cnf) (a b : Lit) → (with_or_gate f a b).0.vars ≡ f.vars + 1
unfolding with_or_gate
or_gate-grows f a b = refl

pub carry-grows : (f : Cnf) (carry : Option Lit) → f.vars ≤ (with_carry f carry).0.vars
carry-grows f None = omega (arith, false-grows f)
carry-grows f (Some l) = omega arith

pub found-grows : (f : Cnf) (o : Option Lit) → f.vars ≤ (with_found f o).0.vars
found-grows f None = omega (arith, true-grows f)
found-grows f (Some l) = omega arith

pub digit-grows : (f : Cnf) (one : Bool) (digit below : Lit) → (with_digit f one digit below).0.vars ≡ f.vars + 1
digit-grows f true digit below = and_gate-grows f (digit ∷ below ∷ [])
digit-grows f false digit below = or_gate-grows f digit below

pub compared_digit-grows : (f : Cnf) (below : Option Lit) (digit : Lit) (one : Bool) → f.vars ≤ (with_compared_digit f below digit one).0.vars
compared_digit-grows f None digit one = omega arith
compared_digit-grows f (Some below) digit one = omega (arith, digit-grows f one digit below)

pub comparison-grows : (f : Cnf) (below : Option Lit) (digits : List Lit) (bound : ℕ) → f.vars ≤ (with_comparison f below digits bound).0.vars
comparison-grows f below [] bound = omega arith
comparison-grows f below (digit ∷ digits) bound =
    let next = with_compared_digit f below digit (eqb (bound % 2) 1) in
    let one = compared_digit-grows f below digit (eqb (bound % 2) 1) in
    let rest = comparison-grows next.0 next.1 digits (bound / 2) in
    omega arith

by_test : (n : ℕ) (b : Bool) (x y : Cnf × Lit) → n ≤ x.0.vars → n ≤ y.0.vars → n ≤ (cond b x y).0.vars
by_test n true x y h k = h
by_test n false x y h k = k

pub at_least-grows : (f : Cnf) (x : List Lit) (bound : ℕ) → f.vars ≤ (with_at_least f x bound).0.vars
unfolding with_at_least
at_least-grows f x bound =
    let all = with_comparison f None x bound in
    let one = comparison-grows f None x bound in
    let two = found-grows all.0 all.1 in
    by_test f.vars (leb (2 ^ length x) bound) (with_false f) (with_found all.0 all.1) (omega (arith, false-grows f)) (omega arith)

by_length : (n : ℕ) (b : Bool) (x y : Cnf × List Lit) → n ≤ x.0.vars → n ≤ y.0.vars → n ≤ (cond b x y).0.vars
by_length n true x y h k = h
by_length n false x y h k = k

pub reduced-grows : (f : Cnf) (fits : Lit) (x : List Lit) (by : ℕ) → f.vars ≤ (with_reduced f fits x by).0.vars
unfolding with_reduced
reduced-grows f fits x by =
    let n = remainder_digits by in
    let sum = with_columns f None (scaled_columns fits (2 ^ n - by) (take n x)) in
    by_length f.vars (ltb (length x) n) (f, x) (sum.formula, sum.sums) (omega arith) (columns-grows f None (scaled_columns fits (2 ^ n - by) (take n x)))

pub next_digit-grows : (d : Divided) (digit : Lit) (by : ℕ) → d.formula.vars ≤ (with_next_digit d digit by).formula.vars
unfolding with_next_digit
next_digit-grows d digit by =
    let fits = with_at_least d.formula (digit ∷ d.remainder) by in
    let one = at_least-grows d.formula (digit ∷ d.remainder) by in
    let two = reduced-grows fits.0 fits.1 (digit ∷ d.remainder) by in
    omega arith

pub division-grows : (f : Cnf) (x : List Lit) (by : ℕ) → f.vars ≤ (with_division f x by).formula.vars
division-grows f [] by = omega arith
division-grows f (digit ∷ digits) by =
    let one = division-grows f digits by in
    let two = next_digit-grows (with_division f digits by) digit by in
    omega arith

pub half_carry-below : (f : Cnf) (x y : Lit) → IsTrue (option_below (with_half_adder f x y).formula.vars (with_half_adder f x y).carry)
unfolding with_half_adder
half_carry-below f x y = is_below-positive (f.vars + 2) (f.vars + 1) (omega arith)

pub full_carry-below : (f : Cnf) (x y z : Lit) → IsTrue (option_below (with_full_adder f x y z).formula.vars (with_full_adder f x y z).carry)
unfolding with_full_adder
full_carry-below f x y z = is_below-positive (f.vars + 2) (f.vars + 1) (omega arith)

pub cell_carry-below : (f : Cnf) (x : Lit) (y z : Option Lit) → IsTrue (option_below (with_cell f x y z).formula.vars (with_cell f x y z).carry)
cell_carry-below f x None None = refl
cell_carry-below f x None (Some z) = half_carry-below f x z
cell_carry-below f x (Some y) None = half_carry-below f x y
cell_carry-below f x (Some y) (Some z) = full_carry-below f x y z

pub adder-grows : (f : Cnf) (x y : List Lit) → f.vars ≤ (with_adder f x y).0.vars
unfolding with_adder
adder-grows f x y =
    let sum = with_columns f None (columns x y) in
    let one = columns-grows f None (columns x y) in
    let two = carry-grows sum.formula sum.carry in
    omega arith
