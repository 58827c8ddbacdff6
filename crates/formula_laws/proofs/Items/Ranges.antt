-- The literals of the nodes are in range.
use Rattle.std.proofs.Common.{Bool, IsTrue, List, [], ap, arith, false, refl, subst, suc, true, ℕ, ◌&&◌, ◌*◌, ◌+◌, ◌<◌, ◌∷◌, ◌≡◌, ◌≤◌}
use Rattle.std.proofs.Math.Nat.{mul-le-mul_right}
use Rattle.std.specs.Prelude.{nat_lt}
use Rattle.formula_laws.specs.Path.{each_below, next_clauses, next_lits, node, node_lit, only_if}
use Rattle.cnf.proofs.ForCallers.{is_below-positive, list_all-append-from, one_below}
use Rattle.cnf.specs.Cnf.{Cnf}
use Rattle.cnf.specs.Gates.{with_clauses}
use Rattle.cnf.specs.Lits.{are_below, is_below}
use Rattle.cnf.specs.declared.lit.Lit.{Lit}
use Rattle.grid_laws.specs.Grid.{Lays, left_alone, right_alone, together}

cell_below : (m n i j : ℕ) → i ≤ m → j ≤ n → i * suc n + j < suc m * suc n
cell_below m n i j hi hj = let h : i * suc n ≤ m * suc n = mul-le-mul_right (suc n) hi in omega arith

pub node_less : (m n : ℕ) (k : Lays) (i j v : ℕ) → i ≤ m → j ≤ n → 3 * (suc m * suc n) ≤ v → node (suc n) k i j < v
node_less m n left_alone i j v hi hj room = let c = cell_below m n i j hi hj in omega arith
node_less m n right_alone i j v hi hj room = let c = cell_below m n i j hi hj in omega arith
node_less m n together i j v hi hj room = let c = cell_below m n i j hi hj in omega arith

pub node_below : (m n : ℕ) (k : Lays) (i j v : ℕ) → i ≤ m → j ≤ n → 3 * (suc m * suc n) ≤ v → IsTrue (is_below v (node_lit (suc n) k i j))
node_below m n k i j v hi hj room = is_below-positive v (node (suc n) k i j) (node_less m n k i j v hi hj room)

pub next_below : (m n i j v : ℕ) → i ≤ m → j ≤ n → 3 * (suc m * suc n) ≤ v → IsTrue (are_below v (next_lits m n i j))
next_below m n i j v hi hj room =
    list_all-append-from (is_below v) (only_if (nat_lt i m) (node_lit (suc n) left_alone (suc i) j ∷ [])) _ (some (nat_lt i m) _ (λ h. one_below v _ (node_below m n left_alone (suc i) j v (grind arith) hj room)))
    (list_all-append-from (is_below v) (only_if (nat_lt j n) (node_lit (suc n) right_alone i (suc j) ∷ [])) _ (some (nat_lt j n) _ (λ h. one_below v _ (node_below m n right_alone i (suc j) v hi (grind arith) room)))
    (some (nat_lt i m && nat_lt j n) _ (λ h. one_below v _ (node_below m n together (suc i) (suc j) v (grind arith) (grind arith) room))))
  where
    some : (b : Bool) (ls : List Lit) → (b ≡ true → IsTrue (are_below v ls)) → IsTrue (are_below v (only_if b ls))
    some true ls h = h refl
    some false ls h = refl

node_in_range : (m n : ℕ) (k : Lays) (i j v : ℕ) → i ≤ m → j ≤ n → 3 * (suc m * suc n) ≤ v → IsTrue (is_below v (node_lit (n + 1) k i j))
node_in_range m n k i j v hi hj room = let e : suc n ≡ n + 1 = omega arith in subst (λ (c : ℕ). IsTrue (is_below v (node_lit c k i j))) e (node_below m n k i j v hi hj room)

row_whole : (f : Cnf) (m n i : ℕ) → with_clauses f (each_below (n + 1) (λ j. next_clauses m n i j)) ≡ with_clauses f (each_below (suc n) (λ j. next_clauses m n i j))
row_whole f m n i = let e : n + 1 ≡ suc n = omega arith in ap (λ (c : ℕ). with_clauses f (each_below c (λ j. next_clauses m n i j))) e
