-- The clauses of the path through the grid: which node follows which, and which the combinators refuse.
use Rattle.std.specs.Prelude.{Bool, List, [], false, nat_lt, not, suc, true, zero, ℕ, ◌&&◌, ◌*◌, ◌++◌, ◌+◌, ◌∷◌}
use Rattle.cnf.specs.Gates.{not_both}
use Rattle.cnf.specs.Lits.{negation, positive}
use Rattle.cnf.specs.Values.{value}
use Rattle.cnf.specs.declared.lit.Lit.{Lit}
use Rattle.css_model.specs.declared.selector.Combinator.{Combinator}
use Rattle.grid_laws.specs.Grid.{Lays, Nodes, goes_up_at, left_alone, right_alone, together, waits_at}

-- the number of a node's variable, in a grid of so many columns
abbrev pub node : ℕ → Lays → ℕ → ℕ → ℕ
node columns left_alone i j = 3 * (i * columns + j)
node columns right_alone i j = 3 * (i * columns + j) + 1
node columns together i j = 3 * (i * columns + j) + 2

-- what is made for 0, 1, .. up to n - 1
abbrev pub each_below {ℓ} : {A : Type ℓ} → ℕ → (ℕ → List A) → List A
each_below zero make = []
each_below (suc n) make = each_below n make ++ make n

-- the literal of a node in a grid of so many columns
abbrev pub node_lit : ℕ → Lays → ℕ → ℕ → Lit
node_lit columns k i j = positive (node columns k i j)

-- a list, where a test holds
abbrev pub only_if : {A : Type 0} → Bool → List A → List A
only_if true xs = xs
only_if false xs = []

-- the nodes next to a cell; m and n are the numbers of the last compounds
abbrev pub next_lits : ℕ → ℕ → ℕ → ℕ → List Lit
next_lits m n i j =
    only_if (nat_lt i m) (node_lit (suc n) left_alone (suc i) j ∷ [])
    ++ (only_if (nat_lt j n) (node_lit (suc n) right_alone i (suc j) ∷ [])
    ++ only_if (nat_lt i m && nat_lt j n) (node_lit (suc n) together (suc i) (suc j) ∷ []))

-- where slots are left to lay, there is a next one
abbrev pub next_clauses : ℕ → ℕ → ℕ → ℕ → List (List Lit)
next_clauses m n i j = only_if (nat_lt (i + j) (m + n))
    ((negation (node_lit (suc n) left_alone i j) ∷ next_lits m n i j)
    ∷ (negation (node_lit (suc n) right_alone i j) ∷ next_lits m n i j)
    ∷ (negation (node_lit (suc n) together i j) ∷ next_lits m n i j)
    ∷ [])

-- the first node, and the next ones of each cell
abbrev pub path_clauses : ℕ → ℕ → List (List Lit)
path_clauses m n = (node_lit (suc n) together 0 0 ∷ []) ∷ each_below (suc m) (λ i. each_below (suc n) (λ j. next_clauses m n i j))

-- whether the combinators allow the node of a compound of the left selector alone
abbrev pub left_fits : List Combinator → List Combinator → ℕ → ℕ → Bool
left_fits xl yl zero j = false
left_fits xl yl (suc i) j = waits_at yl j (goes_up_at xl (suc i))

-- the same for a compound of the right selector alone
abbrev pub right_fits : List Combinator → List Combinator → ℕ → ℕ → Bool
right_fits xl yl i zero = false
right_fits xl yl i (suc j) = waits_at xl i (goes_up_at yl (suc j))

-- whether two answers are the same
abbrev pub same_bool : Bool → Bool → Bool
same_bool true b = b
same_bool false b = not b

-- and for two compounds in one slot
abbrev pub both_fit : List Combinator → List Combinator → ℕ → ℕ → Bool
both_fit xl yl zero zero = true
both_fit xl yl zero (suc j) = false
both_fit xl yl (suc i) zero = false
both_fit xl yl (suc i) (suc j) = same_bool (goes_up_at xl (suc i)) (goes_up_at yl (suc j))

-- a node is false unless it is allowed
abbrev pub unless : Bool → Lit → List (List Lit)
unless fits l = only_if (not fits) ((negation l ∷ []) ∷ [])

-- and for a node, by what it lays
abbrev pub links_fit : List Combinator → List Combinator → Lays → ℕ → ℕ → Bool
links_fit xl yl left_alone i j = left_fits xl yl i j
links_fit xl yl right_alone i j = right_fits xl yl i j
links_fit xl yl together i j = both_fit xl yl i j

-- the nodes that are true
abbrev pub true_nodes : ℕ → List Bool → Nodes
true_nodes columns vs k i j = value vs (node_lit columns k i j)

-- what stands in the last slot
abbrev pub last_lits : ℕ → ℕ → List Lit
last_lits m n = node_lit (suc n) left_alone m n ∷ node_lit (suc n) right_alone m n ∷ node_lit (suc n) together m n ∷ []

-- exactly one of the three nodes of the last cell
abbrev pub last_clauses : ℕ → ℕ → List (List Lit)
last_clauses m n = last_lits m n ∷ not_both (last_lits m n)
