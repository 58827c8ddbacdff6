-- Numbers in binary against a constant: comparison, and school division.
use Rattle.std.specs.Prelude.{◌-◌, ◌/◌, ◌%◌, ◌^◌, ◌==◌, nat_le, nat_lt, ℕ, Bool, if◌then◌else◌, List, [], ◌∷◌, Option, Some, None, length, take}
use Rattle.std.specs.Int.Count.{count_leading_zeros}
use Rattle.cnf.specs.declared.lit.Lit.{Lit}
use Rattle.cnf.specs.Cnf.{Cnf}
use Rattle.cnf.specs.Gates.{with_and_gate, with_or_gate, with_true, with_false}
use Rattle.cnf.specs.Sums.{with_columns}

-- one digit more against the bound's digit, `below` for "at least, by the lower digits": both where
-- the bound has a 1, one of both where it has a 0
abbrev pub with_digit : Cnf → Bool → Lit → Lit → Cnf × Lit
with_digit f one digit below = if one then with_and_gate f (digit ∷ below ∷ []) else with_or_gate f digit below

-- the outcome by one digit more; None stands for "true"
abbrev pub with_compared_digit : Cnf → Option Lit → Lit → Bool → Cnf × Option Lit
with_compared_digit f None digit one = (f, if one then Some digit else None)
with_compared_digit f (Some below) digit one = let gate = with_digit f one digit below in (gate.0, Some gate.1)

-- whether a number is at least the bound, from the least digit
abbrev pub with_comparison : Cnf → Option Lit → List Lit → ℕ → Cnf × Option Lit
with_comparison f below [] bound = (f, below)
with_comparison f below (digit ∷ digits) bound =
    let next = with_compared_digit f below digit (bound % 2 == 1) in
    with_comparison next.0 next.1 digits (bound / 2)

-- what a comparison found, as a literal
abbrev pub with_found : Cnf → Option Lit → Cnf × Lit
with_found f None = with_true f
with_found f (Some l) = (f, l)

-- a literal that is true exactly where the number is at least the bound
unfoldable pub with_at_least : Cnf → List Lit → ℕ → Cnf × Lit
with_at_least f x bound =
    if nat_le (2 ^ length x) bound then with_false f
    else (let all = with_comparison f None x bound in with_found all.0 all.1)

-- how many digits a remainder has at most: as many as `by` - 1
unfoldable pub remainder_digits : ℕ → ℕ
remainder_digits by = 32 - count_leading_zeros 32 (by - 1)

-- the number above `gate` times a constant
abbrev pub scaled_columns : Lit → ℕ → List Lit → List (Lit × Option Lit)
scaled_columns gate factor [] = []
scaled_columns gate factor (l ∷ ls) =
    (l, if factor % 2 == 1 then Some gate else None) ∷ scaled_columns gate (factor / 2) ls

-- x, less `by` where `fits` is true: the lowest digits of x + fits · (2 ^ n - by)
unfoldable pub with_reduced : Cnf → Lit → List Lit → ℕ → Cnf × List Lit
with_reduced f fits x by =
    let n = remainder_digits by in
    if nat_lt (length x) n then (f, x)
    else (let sum = with_columns f None (scaled_columns fits (2 ^ n - by) (take n x)) in (sum.formula, sum.sums))

-- a quotient and a remainder
pub record Divided : Type 0 where
  pub formula : Cnf
  pub quotient : List Lit
  pub remainder : List Lit

-- one step of school division: the next digit is put behind the remainder so far
unfoldable pub with_next_digit : Divided → Lit → ℕ → Divided
with_next_digit d digit by =
    let x = digit ∷ d.remainder in
    let fits = with_at_least d.formula x by in
    let rest = with_reduced fits.0 fits.1 x by in
    record { formula = rest.0; quotient = fits.1 ∷ d.quotient; remainder = rest.1 }

-- the number divided by `by`, from the highest digit down
abbrev pub with_division : Cnf → List Lit → ℕ → Divided
with_division f [] by = record { formula = f; quotient = []; remainder = [] }
with_division f (digit ∷ digits) by = with_next_digit (with_division f digits by) digit by
