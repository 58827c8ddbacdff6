-- Clauses behind a literal.
use Rattle.std.proofs.Common.{List, [], ap, refl, ◌++◌, ◌∷◌, ◌≡◌}
use Rattle.cnf.specs.Lits.{negation}
use Rattle.cnf.specs.declared.lit.Lit.{Lit}
use Rattle.formula_laws.specs.Counts.{implied}

-- in two parts
pub implied_both : (l : Lit) (a b : List (List Lit)) → implied l (a ++ b) ≡ implied l a ++ implied l b
implied_both l [] b = refl
implied_both l (c ∷ cs) b = ap (λ ds. (negation l ∷ c) ∷ ds) (implied_both l cs b)
