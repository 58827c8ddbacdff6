-- Literals of the path and of refused nodes are in range.
use Rattle.std.proofs.Common.{IsTrue, List, ℕ, ◌∷◌, ◌≤◌}
use Rattle.std.proofs.lemmas.Bool.{and_from}
use Rattle.cnf.proofs.ForCallers.{one_below, pair_below, triple_below}
use Rattle.cnf.specs.Lits.{are_below, is_below, negation}
use Rattle.cnf.specs.declared.lit.Lit.{Lit}
use Rattle.formula_laws.proofs.ForCallers.{next_below}
use Rattle.formula_laws.specs.Formula.{nodes_end}
use Rattle.formula_laws.specs.Path.{next_lits}
use Rattle.sibling_clauses.proofs.ForCallers.{negation_in_range}

pub implied_in_range : (n : ℕ) (l : Lit) (ls : List Lit) → IsTrue (is_below n l) → IsTrue (are_below n ls) → IsTrue (are_below n (negation l ∷ ls))
implied_in_range n l ls h hs = and_from (is_below n (negation l)) (are_below n ls) (negation_in_range n l h) hs

pub next_in_range : (v m n i j : ℕ) → nodes_end m n ≤ v → i ≤ m → j ≤ n → IsTrue (are_below v (next_lits m n i j))
next_in_range v m n i j room hi hj = next_below m n i j v hi hj room

pub ruleset clauses_in_range = (one_below, pair_below, triple_below)

pub ruleset unit_in_range = (one_below, negation_in_range)
