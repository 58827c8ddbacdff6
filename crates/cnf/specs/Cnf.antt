-- Formulas in conjunctive normal form.
use Rattle.std.specs.Prelude.{◌≡◌, ℕ, Bool, List, IsTrue, length}
use Rattle.std.specs.List.{list_all}
use Rattle.cnf.specs.declared.lit.Lit.{Lit}
use Rattle.cnf.specs.Lits.{are_below}
use Rattle.cnf.specs.Values.{holds, all_hold}

-- how many variables it has, and its clauses, each a list of literals
pub record Cnf : Type 0 where
  pub vars : ℕ
  pub clauses : List (List Lit)

-- whether each literal of the clauses has a variable of the formula
abbrev pub is_in_range : Cnf → Bool
is_in_range f = list_all (are_below f.vars) f.clauses

-- a list of values that satisfies the formula: one for each variable, and each clause holds
pub record Satisfies (vs : List Bool) (f : Cnf) : Type 0 where
  pub one_each : length vs ≡ f.vars
  pub each_holds : IsTrue (all_hold vs f.clauses)

-- the clause holds wherever the formula does
abbrev pub Follows : Cnf → List Lit → Type 0
Follows f clause = (vs : List Bool) → Satisfies vs f → IsTrue (holds vs clause)
