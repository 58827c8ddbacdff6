-- Literals of the formula are in range.
use Rattle.std.proofs.Common.{IsTrue, List, [], arith, length, map, suc, ℕ, ◌++◌, ◌+◌, ◌*◌, ◌<◌, ◌∷◌, ◌≡◌, ◌≤◌}
use Rattle.std.proofs.lemmas.Bool.{and_from, and_parts}
use Rattle.cnf.proofs.ForCallers.{are_below-mono, are_below-negations, is_below-mono, is_below-negation, is_below-positive, list_all-append-from, one_below, pair_below, triple_below}
use Rattle.formula_laws.proofs.ForCallers.{length_literals, node_below, slot_digits}
use Rattle.formula_laws.specs.Formula.{first_vars, nodes_end, slot_at}
use Rattle.formula_laws.specs.Relations.{literals}
use Rattle.formula_laws.specs.Path.{node_lit}
use Rattle.grid_laws.specs.Grid.{Lays}
use Rattle.cnf.specs.Lits.{are_below, is_below, negation, positive}
use Rattle.cnf.specs.declared.lit.Lit.{Lit}

pub node_in_range : (v m n : ℕ) (k : Lays) (i j : ℕ) → nodes_end m n ≤ v → i ≤ m → j ≤ n → IsTrue (is_below v (node_lit (suc n) k i j))
node_in_range v m n k i j room hi hj = node_below m n k i j v hi hj room

-- literals in range stay so
pub stays_in_range : (m n : ℕ) (ls : List Lit) → IsTrue (are_below m ls) → m ≤ n → IsTrue (are_below n ls)
stays_in_range m n ls h le = are_below-mono m n le ls h

pub lit_stays_in_range : (m n : ℕ) (l : Lit) → IsTrue (is_below m l) → m ≤ n → IsTrue (is_below n l)
lit_stays_in_range m n l h le = is_below-mono m n le l h

-- the parts of a list in range
pub first_in_range : (n : ℕ) (l : Lit) (ls : List Lit) → IsTrue (are_below n (l ∷ ls)) → IsTrue (is_below n l)
first_in_range n l ls h = (and_parts (is_below n l) (are_below n ls) h).0

pub rest_in_range : (n : ℕ) (l : Lit) (ls : List Lit) → IsTrue (are_below n (l ∷ ls)) → IsTrue (are_below n ls)
rest_in_range n l ls h = (and_parts (is_below n l) (are_below n ls) h).1

pub negation_in_range : (n : ℕ) (l : Lit) → IsTrue (is_below n l) → IsTrue (is_below n (negation l))
negation_in_range n l h = is_below-negation n l h

pub ruleset digits_in_range = (one_below, pair_below, triple_below, first_in_range, rest_in_range, negation_in_range)

pub negations_in_range : (n : ℕ) (ls : List Lit) → IsTrue (are_below n ls) → IsTrue (are_below n (map negation ls))
negations_in_range n ls h = are_below-negations n ls h

pub longer_in_range : (n : ℕ) (l : Lit) (ls : List Lit) → IsTrue (is_below n l) → IsTrue (are_below n ls) → IsTrue (are_below n (l ∷ ls))
longer_in_range n l ls h hs = and_from (is_below n l) (are_below n ls) h hs

pub ruleset later_in_range = (stays_in_range, lit_stays_in_range, negations_in_range, longer_in_range)

-- the digits of a number
pub number_in_range : (m n w q v : ℕ) (ls : List Lit) → ls ≡ literals (slot_at m n w q) w → q < 2 * suc m + 2 * suc n → first_vars m n w ≤ v → IsTrue (are_below v ls)
number_in_range m n w q v ls e h room = rw e (are_below-mono (first_vars m n w) v room (literals (slot_at m n w q) w) (slot_digits m n w q h).0)

pub number_length : (v n : ℕ) (ls : List Lit) → ls ≡ literals v n → length ls ≡ n
number_length v n ls e = rw e (length_literals v n)

-- the five behind the nodes
pub first_in_range_by : (m n w v k : ℕ) (l : Lit) → l ≡ positive k → first_vars m n w ≤ v → k < nodes_end m n + 5 → IsTrue (is_below v l)
first_in_range_by m n w v k l e room h = rw e (is_below-positive v k (omega arith))

pub ruleset order_in_range = (pair_below, negation_in_range)

pub one_is_below : (n : ℕ) (l : Lit) → IsTrue (is_below n l) → IsTrue (are_below n (l ∷ []))
one_is_below n l h = one_below n l h

-- a fresh literal
pub false_in_range : (n : ℕ) (l : Lit) → l ≡ positive n → IsTrue (is_below (n + 1) l)
false_in_range n l e = rw e (is_below-positive (n + 1) n (omega arith))

pub zeros_in_range : (n : ℕ) (xs ys : List Lit) → IsTrue (are_below n xs) → IsTrue (are_below n ys) → IsTrue (are_below n (map negation xs ++ map negation ys))
zeros_in_range n xs ys h h' = list_all-append-from (is_below n) (map negation xs) (map negation ys) (are_below-negations n xs h) (are_below-negations n ys h')
