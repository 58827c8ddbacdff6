-- The clauses of a search, each under a number that it keeps: its index in the arena.
use Rattle.std.specs.Prelude.{◌==◌, ℕ, if◌then◌else◌, Option, None, Some, List, [], ◌∷◌, map}
use Rattle.cnf.specs.declared.lit.Lit.{Lit}
use Rattle.sat_arena.specs.Arena.{WatchedClause, WatchedClauses}

-- a clause and its number
pub record Numbered : Type 0 where
  pub number : ℕ
  pub lits : List Lit

-- a clause of the arena without its watches
abbrev pub with_number : WatchedClause → Numbered
with_number k = record { number = k.index; lits = k.lits }

-- the clauses of an arena, in the order in which they came
abbrev pub numbered : WatchedClauses → List Numbered
numbered a = map with_number a.clauses

-- the clauses without their numbers
abbrev pub clauses_of : List Numbered → List (List Lit)
clauses_of ns = map (λ (n : Numbered). n.lits) ns

-- the clause under a number, if there is one
abbrev pub under : List Numbered → ℕ → Option (List Lit)
under [] number = None
under (n ∷ ns) number = if n.number == number then Some n.lits else under ns number
