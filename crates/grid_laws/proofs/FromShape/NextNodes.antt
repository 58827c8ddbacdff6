-- A node that a shape makes true has a next one.
use Rattle.std.proofs.Common.{arith, suc, true, ℕ, ◌+◌, ◌<◌, ◌≡◌, ◌≤◌, ◌⊎◌}
use Rattle.grid_laws.proofs.Walks.Placed.{nodes_of}
use Rattle.grid_laws.specs.Grid.{Lays, left_alone, right_alone, together}

-- where the next slots of both chains lie behind the present one, some node is next
next_node : (m n : ℕ) (left right : ℕ → ℕ) (i j : ℕ) → i ≤ m → j ≤ n → i + j < m + n →
    (i < m → left i < left (suc i)) → (i < m → right j < left (suc i)) → (j < n → left i < right (suc j)) → (j < n → right j < right (suc j)) →
    ((i < m) × (nodes_of m n left right left_alone (suc i) j ≡ true)) ⊎ (((j < n) × (nodes_of m n left right right_alone i (suc j) ≡ true)) ⊎ ((i < m) × (j < n) × (nodes_of m n left right together (suc i) (suc j) ≡ true)))
next_node m n left right i j hi hj more ll rl lr rr = grind arith

pub nodes_go : (m n : ℕ) (left right : ℕ → ℕ) → ((i : ℕ) → i < m → left i < left (suc i)) → ((j : ℕ) → j < n → right j < right (suc j)) →
    (k : Lays) (i j : ℕ) → nodes_of m n left right k i j ≡ true → i ≤ m → j ≤ n → i + j < m + n →
    ((i < m) × (nodes_of m n left right left_alone (suc i) j ≡ true)) ⊎ (((j < n) × (nodes_of m n left right right_alone i (suc j) ≡ true)) ⊎ ((i < m) × (j < n) × (nodes_of m n left right together (suc i) (suc j) ≡ true)))
nodes_go m n left right up up' left_alone i j t hi hj more = next_node m n left right i j hi hj more (up i) (λ h. let w = up i h in grind arith) (λ h. grind arith) (up' j)
nodes_go m n left right up up' right_alone i j t hi hj more = next_node m n left right i j hi hj more (up i) (λ h. grind arith) (λ h. let w = up' j h in grind arith) (up' j)
nodes_go m n left right up up' together i j t hi hj more = next_node m n left right i j hi hj more (up i) (λ h. let w = up i h in grind arith) (λ h. let w = up' j h in grind arith) (up' j)
