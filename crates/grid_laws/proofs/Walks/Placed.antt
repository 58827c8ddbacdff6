-- The slots of a chain in a shape, and the nodes that they make true.
use Rattle.std.specs.Prelude.{List, [], length, nat_lt, suc, zero, ℕ, ◌&&◌, ◌==◌, ◌||◌, ◌∷◌, ◌≡◌, ◌≤◌}
use Rattle.css_model.specs.declared.selector.Combinator.{Combinator}
use Rattle.grid_laws.specs.Grid.{Nodes, left_alone, right_alone, together}
use Rattle.slot_plan.specs.Steps.{LinksFit}
use Rattle.slot_plan.specs.ValidShape.{Ascend}
use Rattle.slot_plan.specs.declared.shape.SlotStep.{SlotStep}

-- the k-th of p and the numbers behind it
abbrev pub place_of : ℕ → List ℕ → ℕ → ℕ
place_of p ps zero = p
place_of p [] (suc k) = p
place_of p (q ∷ qs) (suc k) = place_of q qs k

-- by the slots of the two chains' compounds; I and J are the numbers of the last ones
abbrev pub nodes_of : ℕ → ℕ → (ℕ → ℕ) → (ℕ → ℕ) → Nodes
nodes_of m n left right left_alone i j = nat_lt (right j) (left i) && ((j == n) || nat_lt (left i) (right (suc j)))
nodes_of m n left right right_alone i j = nat_lt (left i) (right j) && ((i == m) || nat_lt (right j) (left (suc i)))
nodes_of m n left right together i j = left i == right j

-- one chain in a shape
pub record Chained (steps : List SlotStep) (links : List Combinator) (ps : List ℕ) : Type 0 where
  pub fit : LinksFit steps links 0 ps
  pub up : Ascend 0 ps
  pub bound : (k : ℕ) → place_of 0 ps k ≤ length steps
  pub same : length links ≡ length ps

abbrev pub nodes_in : List Combinator → List Combinator → List ℕ → List ℕ → Nodes
nodes_in xl yl ps qs = nodes_of (length xl) (length yl) (place_of 0 ps) (place_of 0 qs)
