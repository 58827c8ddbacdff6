-- Numbers in binary and their sums, by half and full adders.
use Rattle.std.specs.Prelude.{◌+◌, ◌*◌, ℕ, Bool, true, false, ◌&&◌, List, [], ◌∷◌, ◌++◌, Option, Some, None}
use Rattle.std.specs.List.{list_all}
use Rattle.cnf.specs.declared.lit.Lit.{Lit}
use Rattle.cnf.specs.Cnf.{Cnf}
use Rattle.cnf.specs.Gates.{with_clauses, with_false}
use Rattle.cnf.specs.Lits.{negation, positive, is_below}
use Rattle.cnf.specs.Values.{value}

-- a truth value as a digit
abbrev pub bit : Bool → ℕ
bit false = 0
bit true = 1

-- the number that the literals are the digits of, the least first
abbrev pub number : List Bool → List Lit → ℕ
number vs [] = 0
number vs (l ∷ ls) = bit (value vs l) + 2 * number vs ls

-- x + y = sum + 2 · carry
unfoldable pub half_adder_clauses : Lit → Lit → Lit → Lit → List (List Lit)
half_adder_clauses x y sum carry =
    -- the carry is "both", and with it the sum is 0
    (negation carry ∷ x ∷ [])
    ∷ (negation carry ∷ y ∷ [])
    ∷ (negation carry ∷ negation sum ∷ [])
    ∷ (carry ∷ negation x ∷ negation y ∷ [])
    -- the sum is "one of both, and not two"
    ∷ (negation sum ∷ x ∷ y ∷ [])
    ∷ (negation sum ∷ negation x ∷ negation y ∷ [])
    ∷ (sum ∷ negation x ∷ y ∷ [])
    ∷ (sum ∷ x ∷ negation y ∷ [])
    ∷ []

-- x + y + z = sum + 2 · carry
unfoldable pub full_adder_clauses : Lit → Lit → Lit → Lit → Lit → List (List Lit)
full_adder_clauses x y z sum carry =
    -- the carry is "two of the three"
    (negation carry ∷ x ∷ y ∷ [])
    ∷ (negation carry ∷ x ∷ z ∷ [])
    ∷ (negation carry ∷ y ∷ z ∷ [])
    ∷ (carry ∷ negation x ∷ negation y ∷ [])
    ∷ (carry ∷ negation x ∷ negation z ∷ [])
    ∷ (carry ∷ negation y ∷ negation z ∷ [])
    -- sum and carry: all three; neither: none. These follow, and shorten the search
    ∷ (negation carry ∷ negation sum ∷ x ∷ [])
    ∷ (negation carry ∷ negation sum ∷ y ∷ [])
    ∷ (negation carry ∷ negation sum ∷ z ∷ [])
    ∷ (carry ∷ sum ∷ negation x ∷ [])
    ∷ (carry ∷ sum ∷ negation y ∷ [])
    ∷ (carry ∷ sum ∷ negation z ∷ [])
    -- the sum is "one or three"
    ∷ (negation sum ∷ x ∷ y ∷ z ∷ [])
    ∷ (negation sum ∷ x ∷ negation y ∷ negation z ∷ [])
    ∷ (negation sum ∷ negation x ∷ y ∷ negation z ∷ [])
    ∷ (negation sum ∷ negation x ∷ negation y ∷ z ∷ [])
    ∷ (sum ∷ negation x ∷ y ∷ z ∷ [])
    ∷ (sum ∷ x ∷ negation y ∷ z ∷ [])
    ∷ (sum ∷ x ∷ y ∷ negation z ∷ [])
    ∷ (sum ∷ negation x ∷ negation y ∷ negation z ∷ [])
    ∷ []

-- a digit of a sum, and the carry into the next
pub record Cell : Type 0 where
  pub formula : Cnf
  pub sum : Lit
  pub carry : Option Lit

-- with two more variables, the sum and the carry
abbrev pub with_two_fresh : Cnf → Cnf
with_two_fresh f = record f { vars = f.vars + 2 }

unfoldable pub with_half_adder : Cnf → Lit → Lit → Cell
with_half_adder f x y =
    let sum = positive f.vars in
    let carry = positive (f.vars + 1) in
    record { formula = with_clauses (with_two_fresh f) (half_adder_clauses x y sum carry); sum = sum; carry = Some carry }

unfoldable pub with_full_adder : Cnf → Lit → Lit → Lit → Cell
with_full_adder f x y z =
    let sum = positive f.vars in
    let carry = positive (f.vars + 1) in
    record { formula = with_clauses (with_two_fresh f) (full_adder_clauses x y z sum carry); sum = sum; carry = Some carry }

-- the sum of one literal, perhaps a second one, and perhaps a carry
abbrev pub with_cell : Cnf → Lit → Option Lit → Option Lit → Cell
with_cell f x None None = record { formula = f; sum = x; carry = None }
with_cell f x None (Some z) = with_half_adder f x z
with_cell f x (Some y) None = with_half_adder f x y
with_cell f x (Some y) (Some z) = with_full_adder f x y z

-- the digits of a sum, and the last carry
pub record Sums : Type 0 where
  pub formula : Cnf
  pub sums : List Lit
  pub carry : Option Lit

-- the sum of columns of one or two literals, the least first, with a carry into the first
abbrev pub with_columns : Cnf → Option Lit → List (Lit × Option Lit) → Sums
with_columns f carry [] = record { formula = f; sums = []; carry = carry }
with_columns f carry (c ∷ cs) =
    let cell = with_cell f c.0 c.1 carry in
    let rest = with_columns cell.formula cell.carry cs in
    record rest { sums = cell.sum ∷ rest.sums }

-- two numbers, one above the other
abbrev pub columns : List Lit → List Lit → List (Lit × Option Lit)
columns [] [] = []
columns [] (y ∷ ys) = (y, None) ∷ columns [] ys
columns (x ∷ xs) [] = (x, None) ∷ columns xs []
columns (x ∷ xs) (y ∷ ys) = (x, Some y) ∷ columns xs ys

-- whether a literal that may be there, and each of some columns, has one of the first n variables
abbrev pub option_below : ℕ → Option Lit → Bool
option_below n None = true
option_below n (Some l) = is_below n l

abbrev pub columns_below : ℕ → List (Lit × Option Lit) → Bool
columns_below n cs = list_all (λ c. is_below n c.0 && option_below n c.1) cs

-- a carry as a literal
abbrev pub with_carry : Cnf → Option Lit → Cnf × Lit
with_carry f None = with_false f
with_carry f (Some c) = (f, c)

-- the sum of two numbers, with one digit more than the longer
unfoldable pub with_adder : Cnf → List Lit → List Lit → Cnf × List Lit
with_adder f x y =
    let below = with_columns f None (columns x y) in
    let top = with_carry below.formula below.carry in
    (top.0, below.sums ++ top.1 ∷ [])
