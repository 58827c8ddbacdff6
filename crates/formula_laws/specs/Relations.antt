-- Relations between numbers in binary, as clauses: what the gates make for one of them is used by no other.
use Rattle.std.specs.Prelude.{Bool, List, [], length, map, suc, zero, ℕ, ◌%◌, ◌/◌, ◌==◌, ◌^◌, ◌∷◌}
use Rattle.cnf.specs.Cnf.{Cnf}
use Rattle.cnf.specs.Gates.{with_clauses}
use Rattle.cnf.specs.Lits.{negation, positive}
use Rattle.cnf.specs.Numbers.{with_at_least}
use Rattle.cnf.specs.Sums.{with_adder}
use Rattle.cnf.specs.declared.lit.Lit.{Lit}

-- the digits of two numbers are the same; what the first has more is 0
abbrev pub same_digits : List Lit → List Lit → List (List Lit)
same_digits [] ys = []
same_digits (x ∷ xs) [] = (negation x ∷ []) ∷ same_digits xs []
same_digits (x ∷ xs) (y ∷ ys) = (negation x ∷ y ∷ []) ∷ (x ∷ negation y ∷ []) ∷ same_digits xs ys

-- x + y = z
abbrev pub with_sum : List Lit → List Lit → List Lit → Cnf → Cnf
with_sum x y z f = let sum = with_adder f x y in with_clauses sum.0 (same_digits sum.1 z)

-- x < y, or one of the literals: y + (2^n - 1 - x) is 2^n or more
abbrev pub with_less : List Lit → List Lit → List Lit → Cnf → Cnf
with_less unless x y f =
    let sum = with_adder f y (map negation x) in
    let top = with_at_least sum.0 sum.1 (2 ^ length x) in
    with_clauses top.0 ((top.1 ∷ unless) ∷ [])

-- n literals from a variable on
abbrev pub literals : ℕ → ℕ → List Lit
literals v zero = []
literals v (suc n) = positive v ∷ literals (suc v) n

-- the n lowest digits of a number
abbrev pub digits : ℕ → ℕ → List Bool
digits zero number = []
digits (suc n) number = (number % 2 == 1) ∷ digits n (number / 2)
