-- Clauses that have a literal.
use Rattle.std.specs.Prelude.{Bool, true, false, List, [], ◌∷◌}
use Rattle.std.specs.List.{list_all}
use Rattle.cnf.specs.declared.lit.Lit.{Lit}

-- whether a clause has a literal
abbrev pub is_nonempty : List Lit → Bool
is_nonempty [] = false
is_nonempty (l ∷ ls) = true

-- whether each clause has a literal
abbrev pub are_nonempty : List (List Lit) → Bool
are_nonempty cs = list_all is_nonempty cs
