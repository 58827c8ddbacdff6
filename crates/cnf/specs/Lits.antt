-- Literals: twice the number of a variable, plus 1 for its negation, as in MiniSat.
use Rattle.std.specs.Prelude.{◌+◌, ◌-◌, ◌*◌, ◌/◌, ◌%◌, ◌==◌, nat_lt, ℕ, Bool, if◌then◌else◌, List}
use Rattle.std.specs.List.{list_all, list_any}
use Rattle.cnf.specs.declared.lit.Lit.{Lit}

-- the variable of a literal
abbrev pub variable : Lit → ℕ
variable l = l.0 / 2

-- whether a literal is the negation of its variable
abbrev pub is_negated : Lit → Bool
is_negated l = l.0 % 2 == 1

-- a variable as a literal
unfoldable pub positive : ℕ → Lit
positive v = record { 0 = 2 * v }

-- the literal of the same variable that is true where this one is false
unfoldable pub negation : Lit → Lit
negation l = record { 0 = if l.0 % 2 == 0 then l.0 + 1 else l.0 - 1 }

-- whether two literals are the same
abbrev pub same : Lit → Lit → Bool
same a b = a.0 == b.0

-- whether a literal is among others
abbrev pub is_among : List Lit → Lit → Bool
is_among ls l = list_any (same l) ls

-- whether the variable of a literal is one of the first n
abbrev pub is_below : ℕ → Lit → Bool
is_below n l = nat_lt (variable l) n

-- whether the variables of all these literals are among the first n
abbrev pub are_below : ℕ → List Lit → Bool
are_below n ls = list_all (is_below n) ls
