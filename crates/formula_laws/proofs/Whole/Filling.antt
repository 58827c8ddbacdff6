-- A list of values for the first variables, and both halves of the law.
use Rattle.std.proofs.Common.{Bool, IsTrue, List, [], ap, arith, false, get_or, length, not, refl, subst, suc, sym, true, zero, ℕ, ◌%◌, ◌&&◌, ◌*◌, ◌++◌, ◌+◌, ◌-◌, ◌/◌, ◌<◌, ◌^◌, ◌∙◌, ◌≡◌, ◌≤◌}
use Rattle.std.proofs.Math.Nat.{mul-le-mul_right}
use Rattle.std.proofs.lemmas.Bool.{and_from, cond-false, cond-true, le-ltb, lt-ltb}
use Rattle.std.specs.Prelude.{if◌then◌else◌, nat_lt}
use Rattle.formula_laws.proofs.Hints.Hinted.{all_item}
use Rattle.formula_laws.proofs.Items.Items.{Item}
use Rattle.formula_laws.proofs.Items.Ranges.{node_less}
use Rattle.formula_laws.proofs.Numbers.Counted.{NamesBelow, numbers}
use Rattle.formula_laws.proofs.Numbers.Moving.{SameBelow, Trimmed, inner, moved, moved_joined}
use Rattle.formula_laws.proofs.Numbers.Related.{number_read}
use Rattle.formula_laws.proofs.Whole.Conditions.{AllowedMeans, Says, SolvedAt, says_solved, solved_says}
use Rattle.formula_laws.proofs.Whole.Tables.{length-table, node_rule, node_rule_at, table, table_at}
use Rattle.formula_laws.specs.Allowed.{Allowed}
use Rattle.formula_laws.specs.Counts.{Names}
use Rattle.formula_laws.specs.Formula.{SmallSteps, first_vars, formula_with, names_of, nodes_end, slot_at, with_all}
use Rattle.formula_laws.specs.Path.{node, true_nodes}
use Rattle.formula_laws.specs.Relations.{digits, literals}
use Rattle.cnf.proofs.ForCallers.{is_below-positive, quotient_of, remainder_of}
use Rattle.cnf.specs.Cnf.{Cnf, Satisfies}
use Rattle.cnf.specs.Lits.{are_below, is_below, positive}
use Rattle.cnf.specs.Sums.{number}
use Rattle.cnf.specs.Values.{all_hold, value}
use Rattle.css_model.specs.Documents.SelectorParts.{SelectorParts}
use Rattle.grid_laws.specs.Grid.{Lays, Nodes, left_alone, right_alone}
use Rattle.grid_laws.specs.Solved.{Solved, root_left, root_right}

literals_below : (base v n : ℕ) → v + n ≤ base → IsTrue (are_below base (literals v n))
literals_below base v zero h = refl
literals_below base v (suc n) h = and_from (is_below base (positive v)) (are_below base (literals (suc v) n)) (is_below-positive base v (omega arith)) (literals_below base (suc v) n (omega arith))

pub length_literals : (v n : ℕ) → length (literals v n) ≡ n
length_literals v zero = refl
length_literals v (suc n) = ap suc (length_literals (suc v) n)

slot_inside : (m n w q : ℕ) → q < 2 * suc m + 2 * suc n → slot_at m n w q + w ≤ first_vars m n w
slot_inside m n w q h = let k : suc q * w ≤ (2 * suc m + 2 * suc n) * w = mul-le-mul_right w (let l : suc q ≤ 2 * suc m + 2 * suc n = omega arith in l) in omega arith

pub slot_digits : (m n w q : ℕ) → q < 2 * suc m + 2 * suc n → IsTrue (are_below (first_vars m n w) (literals (slot_at m n w q) w)) × (length (literals (slot_at m n w q) w) ≡ w)
slot_digits m n w q h = (literals_below (first_vars m n w) (slot_at m n w q) w (slot_inside m n w q h), length_literals (slot_at m n w q) w)

pub names_below : (m n w : ℕ) → NamesBelow (first_vars m n w) m n w (names_of m n w)
names_below m n w = record {
  nodes = omega arith;
  root = is_below-positive (first_vars m n w) (nodes_end m n) (omega arith);
  child = is_below-positive (first_vars m n w) (nodes_end m n + 1) (omega arith);
  rx = is_below-positive (first_vars m n w) (nodes_end m n + 2) (omega arith);
  ry = is_below-positive (first_vars m n w) (nodes_end m n + 3) (omega arith);
  one = is_below-positive (first_vars m n w) (nodes_end m n + 4) (omega arith);
  bx = λ i h. slot_digits m n w (2 * i) (omega arith);
  ax = λ i h. slot_digits m n w (2 * i + 1) (omega arith);
  by = λ j h. slot_digits m n w (2 * suc m + 2 * j) (omega arith);
  ay = λ j h. slot_digits m n w (2 * suc m + 2 * j + 1) (omega arith);
}

-- two rows of numbers in turn
abbrev pub two_of : (ℕ → ℕ) → (ℕ → ℕ) → ℕ → ℕ
two_of b a zero = b 0
two_of b a (suc zero) = a 0
two_of b a (suc (suc q)) = two_of (λ i. b (suc i)) (λ i. a (suc i)) q

two_even : (b a : ℕ → ℕ) (i : ℕ) → two_of b a (2 * i) ≡ b i
two_even b a zero = refl
two_even b a (suc i) = ap (two_of b a) (let e : 2 * suc i ≡ suc (suc (2 * i)) = omega arith in e) ∙ two_even (λ i. b (suc i)) (λ i. a (suc i)) i

two_odd : (b a : ℕ → ℕ) (i : ℕ) → two_of b a (2 * i + 1) ≡ a i
two_odd b a zero = refl
two_odd b a (suc i) = ap (two_of b a) (let e : 2 * suc i + 1 ≡ suc (suc (2 * i + 1)) = omega arith in e) ∙ two_odd (λ i. b (suc i)) (λ i. a (suc i)) i

abbrev pub number_of : ℕ → (ℕ → ℕ) → (ℕ → ℕ) → (ℕ → ℕ) → (ℕ → ℕ) → ℕ → ℕ
number_of m bx ax by ay q = if nat_lt q (2 * suc m) then two_of bx ax q else two_of by ay (q - 2 * suc m)

abbrev pub tail_rule : ℕ → (Bool × Bool) → (Bool × Bool) → (ℕ → ℕ) → ℕ → Bool
tail_rule w tops roots num zero = tops.0
tail_rule w tops roots num (suc zero) = tops.1
tail_rule w tops roots num (suc (suc zero)) = roots.0
tail_rule w tops roots num (suc (suc (suc zero))) = roots.1
tail_rule w tops roots num (suc (suc (suc (suc zero)))) = true
tail_rule w tops roots num (suc (suc (suc (suc (suc r))))) = get_or (digits w (num (r / w))) (r % w) false

abbrev pub rule : ℕ → ℕ → ℕ → Nodes → (Bool × Bool) → (Bool × Bool) → (ℕ → ℕ) → ℕ → Bool
rule m n w v tops roots num k = if nat_lt k (nodes_end m n) then node_rule (suc n) v k else tail_rule w tops roots num (k - nodes_end m n)

abbrev pub filled : ℕ → ℕ → ℕ → Nodes → (Bool × Bool) → (Bool × Bool) → (ℕ → ℕ) → List Bool
filled m n w v tops roots num = table (first_vars m n w) (rule m n w v tops roots num)

filled_node : (m n w : ℕ) (v : Nodes) (tops roots : Bool × Bool) (num : ℕ → ℕ) (k : Lays) (i j : ℕ) → i ≤ m → j ≤ n → true_nodes (suc n) (filled m n w v tops roots num) k i j ≡ v k i j
filled_node m n w v tops roots num k i j hi hj =
    let less = node_less m n k i j (nodes_end m n) hi hj (omega arith) in
    table_at (first_vars m n w) (rule m n w v tops roots num) (node (suc n) k i j) (omega arith)
    ∙ cond-true (nat_lt (node (suc n) k i j) (nodes_end m n)) (node_rule (suc n) v (node (suc n) k i j)) (tail_rule w tops roots num (node (suc n) k i j - nodes_end m n)) (lt-ltb (node (suc n) k i j) (nodes_end m n) less)
    ∙ node_rule_at (suc n) v k i j (omega arith)

filled_tail : (m n w : ℕ) (v : Nodes) (tops roots : Bool × Bool) (num : ℕ → ℕ) (k t : ℕ) → k ≡ nodes_end m n + t → k < first_vars m n w → value (filled m n w v tops roots num) (positive k) ≡ tail_rule w tops roots num t
filled_tail m n w v tops roots num k t e less =
    table_at (first_vars m n w) (rule m n w v tops roots num) k less
    ∙ cond-false (nat_lt k (nodes_end m n)) (node_rule (suc n) v k) (tail_rule w tops roots num (k - nodes_end m n)) (le-ltb k (nodes_end m n) (omega arith))
    ∙ ap (tail_rule w tops roots num) (let d : k - nodes_end m n ≡ t = omega arith in d)

filled_number : (m n w : ℕ) (v : Nodes) (tops roots : Bool × Bool) (num : ℕ → ℕ) (q : ℕ) → q < 2 * suc m + 2 * suc n → num q < 2 ^ w → number (filled m n w v tops roots num) (literals (slot_at m n w q) w) ≡ num q
filled_number m n w v tops roots num q h small = number_read (filled m n w v tops roots num) (slot_at m n w q) w (num q) small (λ k hk.
    let inside = slot_inside m n w q h in
    filled_tail m n w v tops roots num (slot_at m n w q + k) (suc (suc (suc (suc (suc (q * w + k)))))) (omega arith) (omega arith)
    ∙ ap (λ (r : ℕ). get_or (digits w (num r)) ((q * w + k) % w) false) (sym (quotient_of (q * w + k) q k w (grind arith) hk))
    ∙ ap (λ (r : ℕ). get_or (digits w (num q)) r false) (sym (remainder_of (q * w + k) q k w (grind arith) hk)))

left_number : (m : ℕ) (bx ax by ay : ℕ → ℕ) (q : ℕ) → q < 2 * suc m → number_of m bx ax by ay q ≡ two_of bx ax q
left_number m bx ax by ay q h = cond-true (nat_lt q (2 * suc m)) (two_of bx ax q) (two_of by ay (q - 2 * suc m)) (lt-ltb q (2 * suc m) h)

right_number : (m : ℕ) (bx ax by ay : ℕ → ℕ) (q r : ℕ) → q ≡ 2 * suc m + r → number_of m bx ax by ay q ≡ two_of by ay r
right_number m bx ax by ay q r e = cond-false (nat_lt q (2 * suc m)) (two_of bx ax q) (two_of by ay (q - 2 * suc m)) (le-ltb q (2 * suc m) (omega arith)) ∙ ap (two_of by ay) (let d : q - 2 * suc m ≡ r = omega arith in d)

-- all numbers have at most w digits
pub record Small (m n w : ℕ) (bx ax by ay : ℕ → ℕ) : Type 0 where
  pub before_left : (i : ℕ) → i ≤ m → bx i < 2 ^ w
  pub after_left : (i : ℕ) → i ≤ m → ax i < 2 ^ w
  pub before_right : (j : ℕ) → j ≤ n → by j < 2 ^ w
  pub after_right : (j : ℕ) → j ≤ n → ay j < 2 ^ w

slot_number : (m n w : ℕ) (v : Nodes) (tops roots : Bool × Bool) (num : ℕ → ℕ) (q p : ℕ) → q < 2 * suc m + 2 * suc n → num q ≡ p → p < 2 ^ w → number (filled m n w v tops roots num) (literals (slot_at m n w q) w) ≡ p
slot_number m n w v tops roots num q p h e small = filled_number m n w v tops roots num q h (omega arith) ∙ e

start_of : ℕ → ℕ → ℕ → Cnf
start_of m n w = record { vars = first_vars m n w; clauses = [] }

-- soundness: values that satisfy the formula give nodes and numbers that satisfy all conditions
pub formula_sound : (w : ℕ) (x y : SelectorParts) (allowed : Allowed) → length x.chain ≡ suc (length x.links) → length y.chain ≡ suc (length y.links) → SmallSteps x y → AllowedMeans x y allowed →
    (vs : List Bool) → IsTrue (all_hold vs (formula_with w allowed x y).clauses) → SolvedAt x y (names_of (length x.links) (length y.links) w) vs
formula_sound w x y allowed lx ly small allowed_means vs h =
    let m = length x.links in
    let n = length y.links in
    let item = all_item (first_vars m n w) w x y allowed (names_of m n w) (names_below m n w) small in
    says_solved x y allowed (names_of m n w) vs lx ly allowed_means (item.sound (record { vars = first_vars m n w; clauses = [] }) vs (omega arith) refl h).1

-- completeness: nodes and numbers that satisfy all conditions, with numbers of at most w digits, give values that satisfy the formula
pub formula_complete : (w : ℕ) (x y : SelectorParts) (allowed : Allowed) → SmallSteps x y → AllowedMeans x y allowed →
    (v : Nodes) (bx ax by ay : ℕ → ℕ) (root child : Bool) → Solved x y v bx ax by ay root child → Small (length x.links) (length y.links) w bx ax by ay → (vs : List Bool) × Satisfies vs (formula_with w allowed x y)
formula_complete w x y allowed small allowed_means v bx ax by ay root child s few =
    let done = item.complete (record { vars = first_vars m n w; clauses = [] }) vs (omega arith) refl (record { one_each = length-table (first_vars m n w) (rule m n w v' tops roots num); each_holds = refl }) says in
    (vs ++ done.0, done.1)
  where
    m : ℕ
    m = length x.links

    n : ℕ
    n = length y.links

    names : Names
    names = names_of m n w

    item : Item (first_vars m n w) (with_all x y allowed names) (Says x y allowed names)
    item = all_item (first_vars m n w) w x y allowed names (names_below m n w) small

    v' : Nodes
    v' k i j = inner k i j && v k i j

    tops : Bool × Bool
    tops = (root, child)

    roots : Bool × Bool
    roots = (root_left x y v' root, root_right x y v' root)

    num : ℕ → ℕ
    num = number_of m bx ax by ay

    vs : List Bool
    vs = filled m n w v' tops roots num

    root_is : value vs names.root ≡ root
    root_is = filled_tail m n w v' tops roots num (nodes_end m n) 0 (omega arith) (omega arith)

    child_is : value vs names.child ≡ child
    child_is = filled_tail m n w v' tops roots num (nodes_end m n + 1) 1 (omega arith) (omega arith)

    rx_is : value vs names.rx ≡ root_left x y v' root
    rx_is = filled_tail m n w v' tops roots num (nodes_end m n + 2) 2 (omega arith) (omega arith)

    ry_is : value vs names.ry ≡ root_right x y v' root
    ry_is = filled_tail m n w v' tops roots num (nodes_end m n + 3) 3 (omega arith) (omega arith)

    one_is : value vs names.one ≡ true
    one_is = filled_tail m n w v' tops roots num (nodes_end m n + 4) 4 (omega arith) (omega arith)

    trim : Trimmed m n v (true_nodes (suc n) vs)
    trim k i j hi hj = filled_node m n w v' tops roots num k i j hi hj

    same_bx : SameBelow m bx (numbers vs names.bx)
    same_bx i h = slot_number m n w v' tops roots num (2 * i) (bx i) (omega arith) (left_number m bx ax by ay (2 * i) (omega arith) ∙ two_even bx ax i) (few.before_left i h)

    same_ax : SameBelow m ax (numbers vs names.ax)
    same_ax i h = slot_number m n w v' tops roots num (2 * i + 1) (ax i) (omega arith) (left_number m bx ax by ay (2 * i + 1) (omega arith) ∙ two_odd bx ax i) (few.after_left i h)

    same_by : SameBelow n by (numbers vs names.by)
    same_by j h = slot_number m n w v' tops roots num (2 * suc m + 2 * j) (by j) (omega arith) (right_number m bx ax by ay (2 * suc m + 2 * j) (2 * j) refl ∙ two_even by ay j) (few.before_right j h)

    same_ay : SameBelow n ay (numbers vs names.ay)
    same_ay j h = slot_number m n w v' tops roots num (2 * suc m + 2 * j + 1) (ay j) (omega arith) (right_number m bx ax by ay (2 * suc m + 2 * j + 1) (2 * j + 1) (omega arith) ∙ two_odd by ay j) (few.after_right j h)

    here : Solved x y (true_nodes (suc n) vs) (numbers vs names.bx) (numbers vs names.ax) (numbers vs names.by) (numbers vs names.ay) root child
    here = moved x y v (true_nodes (suc n) vs) bx ax by ay (numbers vs names.bx) (numbers vs names.ax) (numbers vs names.by) (numbers vs names.ay) root child trim same_bx same_ax same_by same_ay s

    at : SolvedAt x y names vs
    at = subst (λ b. Solved x y (true_nodes (suc n) vs) (numbers vs names.bx) (numbers vs names.ax) (numbers vs names.by) (numbers vs names.ay) b (value vs names.child)) (sym root_is)
        (subst (λ b. Solved x y (true_nodes (suc n) vs) (numbers vs names.bx) (numbers vs names.ax) (numbers vs names.by) (numbers vs names.ay) root b) (sym child_is) here)

    says : Says x y allowed names vs
    says = solved_says x y allowed names vs allowed_means at (moved_joined x.links y.links v (true_nodes (suc n) vs) trim s.grid) one_is
        (rx_is ∙ ap (λ b. b && not (v' right_alone m n)) (sym root_is) ∙ ap (λ b. value vs names.root && not b) (sym (trim right_alone m n (omega arith) (omega arith))))
        (ry_is ∙ ap (λ b. b && not (v' left_alone m n)) (sym root_is) ∙ ap (λ b. value vs names.root && not b) (sym (trim left_alone m n (omega arith) (omega arith))))
