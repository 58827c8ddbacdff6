-- Clauses of the path that are added one part after the other.
use Rattle.std.proofs.Common.{[], ap, arith, suc, ℕ, ◌+◌, ◌∙◌, ◌∷◌, ◌≡◌}
use Rattle.cnf.specs.Cnf.{Cnf}
use Rattle.cnf.specs.Gates.{with_clauses}
use Rattle.formula_laws.specs.Path.{each_below, next_clauses, path_clauses, node_lit}
use Rattle.grid_laws.specs.Grid.{together}
use Rattle.sibling_clauses.proofs.ForCallers.{added_twice}

-- the first node and all next ones
pub path_added : (f g h : Cnf) (m n : ℕ) → g ≡ with_clauses f ((node_lit (suc n) together 0 0 ∷ []) ∷ []) → h ≡ with_clauses g (each_below (m + 1) (λ i. each_below (n + 1) (λ j. next_clauses m n i j))) → h ≡ with_clauses f (path_clauses m n)
path_added f g h m n eg eh =
    let em : m + 1 ≡ suc m = omega arith in
    let en : n + 1 ≡ suc n = omega arith in
    eh ∙ ap (λ i. with_clauses i (each_below (m + 1) (λ i. each_below (n + 1) (λ j. next_clauses m n i j)))) eg
    ∙ added_twice f ((node_lit (suc n) together 0 0 ∷ []) ∷ []) (each_below (m + 1) (λ i. each_below (n + 1) (λ j. next_clauses m n i j)))
    ∙ ap (λ (r : ℕ). with_clauses f ((node_lit (suc n) together 0 0 ∷ []) ∷ each_below r (λ i. each_below (n + 1) (λ j. next_clauses m n i j)))) em
    ∙ ap (λ (c : ℕ). with_clauses f ((node_lit (suc n) together 0 0 ∷ []) ∷ each_below (suc m) (λ i. each_below c (λ j. next_clauses m n i j)))) en
