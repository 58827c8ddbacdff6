-- The root, as clauses.
use Rattle.std.specs.Prelude.{Bool, List, [], ◌++◌, ◌∷◌}
use Rattle.formula_laws.specs.Counts.{implied}
use Rattle.formula_laws.specs.Path.{unless}
use Rattle.formula_laws.specs.Relations.{same_digits}
use Rattle.cnf.specs.Lits.{negation}
use Rattle.cnf.specs.declared.lit.Lit.{Lit}

-- r is "root, and not l"
abbrev pub root_clauses : Lit → Lit → Lit → List (List Lit)
root_clauses r root l = (negation r ∷ root ∷ []) ∷ (negation r ∷ negation l ∷ []) ∷ (r ∷ negation root ∷ l ∷ []) ∷ []

-- the last compound of a selector, with these numbers, may stand in the root
abbrev pub top_clauses : Lit → Bool → List Lit → List Lit → List (List Lit)
top_clauses r up b a = unless up r ++ implied r (same_digits b [] ++ same_digits a [])
