-- What is known of runs says what their numbers leave.
use Rattle.std.proofs.Common.{Bool, IsTrue, List, Option, [], ap, arith, length, refl, sym, true, ℕ, ◌%◌, ◌&&◌, ◌*◌, ◌++◌, ◌+◌, ◌-◌, ◌<◌, ◌∙◌, ◌∷◌, ◌≡◌, ◌≤◌, suc}
use Rattle.std.proofs.Math.Nat.{dvd_of_mod-eq-zero, mod-mod_of_dvd}
use Rattle.std.proofs.lemmas.Bool.{and_parts, eqb-true, leb-true}
use Rattle.std.specs.List.{AllByRecursion}
use Rattle.std.specs.Prelude.{None, Some, nat_le, ◌==◌, ◌||◌}
use Rattle.cnf.specs.Sums.{number, option_below}
use Rattle.cnf.specs.Values.{value}
use Rattle.cnf.specs.declared.lit.Lit.{Lit}
use Rattle.css_model.specs.Documents.SelectorParts.{SelectorParts}
use Rattle.formula_laws.proofs.Hints.Lists.{all_each, all_if, all_of_both}
use Rattle.formula_laws.proofs.Hints.Runs.{IsAside, aside_leaves, aside_step}
use Rattle.formula_laws.proofs.Hints.Shared.{OwnsSay, shared_leaves}
use Rattle.formula_laws.proofs.Items.Ranges.{node_below}
use Rattle.formula_laws.specs.Asked.{are_joined, aside, run_rests, starts_run}
use Rattle.formula_laws.specs.Hints.{Owns, is_cell, shared_rests}
use Rattle.formula_laws.specs.Path.{both_fit, each_below, node_lit, only_if}
use Rattle.formula_laws.specs.Refused.{cell_joint, is_joint, is_left, left_cells, left_joints, own_joint, right_cells, right_joints}
use Rattle.formula_laws.specs.declared.count.Count.{Count}
use Rattle.formula_laws.specs.declared.count.Count.TheVariants.{Before, Behind}
use Rattle.formula_laws.specs.declared.joint.Joint.{Joint}
use Rattle.grid_laws.specs.Grid.{together}
use Rattle.remainders.proofs.ForCallers.{joint_left, joint_same}
use Rattle.remainders.specs.Remainders.{Leaves, joint_rest, joint_step, most_joint}
use Rattle.remainders.specs.declared.remainder.Remainder.{Remainder}

-- the literal is true, if there is one
abbrev pub IsGiven : Option Lit → List Bool → Type 0
IsGiven None vs = Unit {0}
IsGiven (Some l) vs = value vs l ≡ true

-- then some number leaves this, and the other one is so far from it
abbrev pub JointSays : Count → List Bool → ℕ → Joint → Type 0
JointSays count vs m joint = IsGiven joint.given vs → (n : ℕ) × IsAside count n m joint.right joint.left × (joint.rest ≡ Some (n % joint.step))

aside_none : (count : Count) (n : ℕ) → IsAside count n n 0 0
aside_none Before n = refl
aside_none Behind n = refl

pub aside_back : (count : Count) (n m right left : ℕ) → IsAside count n m right left → IsAside count m n left right
aside_back Before n m right left h = sym h
aside_back Behind n m right left h = sym h

pub aside_further : (count : Count) (n m k right left far : ℕ) → IsAside count n m right left → IsAside count m k 0 far → IsAside count n k right (left + far)
aside_further Before n m k right left far h g = omega arith
aside_further Behind n m k right left far h g = omega arith

-- a number leaves what it is found to leave
pub left_means : (count : Count) (n m right left : ℕ) (r : Remainder) (step : ℕ) (rest : Option ℕ) → 0 < r.step → IsAside count n m right left → rest ≡ Some (n % step) → is_left count right left r step rest ≡ true → m % r.step ≡ r.rest
left_means count n m right left r step rest some far is h =
    let found = ap (is_left count right left r step) (sym is) ∙ h in
    let parts = and_parts (step % r.step == 0) ((aside count right left here).rest == r.rest) found in
    let divides = dvd_of_mod-eq-zero r.step (eqb-true (step % r.step) 0 parts.0) in
    let leaves = aside_leaves count n m right left here far (some, sym (mod-mod_of_dvd r.step n divides)) in
    ap (λ (k : ℕ). m % k) (sym (aside_step count right left here)) ∙ leaves.1 ∙ eqb-true ((aside count right left here).rest) r.rest parts.1
  where
    here : Remainder
    here = record { step = r.step; rest = (n % step) % r.step }

-- what is known of a run by itself
own_says : (count : Count) (vs : List Bool) (m : ℕ) (rs : List Remainder) → AllByRecursion (Leaves m) rs → AllByRecursion (JointSays count vs m) (own_joint rs)
own_says count vs m rs leaves =
    all_if (JointSays count vs m) (nat_le (joint_step rs) most_joint) (here ∷ []) (λ e. ((λ _. (m, aside_none count m, joint_left m rs leaves (leb-true (joint_step rs) most_joint e))), tt))
  where
    here : Joint
    here = record { given = None; step = joint_step rs; rest = joint_rest rs; right = 0; left = 0 }

-- what two runs have together, by the number of the left one
shared_says : (count : Count) (rx ry : List Remainder) (n m i j : ℕ) → IsAside count m n i j → AllByRecursion (Leaves n) rx → AllByRecursion (Leaves m) ry → joint_step (rx ++ ry) ≤ most_joint →
    joint_rest (shared_rests count rx ry i j) ≡ Some (n % joint_step (rx ++ ry))
shared_says count rx ry n m i j far left right few =
    let same = joint_same (aside count i j) (aside_step count i j) rx ry in
    joint_left n (shared_rests count rx ry i j) (shared_leaves count rx ry n m i j far left right) (let e : joint_step (shared_rests count rx ry i j) ≡ joint_step (rx ++ ry) = same in omega arith)
    ∙ ap (λ (s : ℕ). Some (n % s)) same

-- how far the first compounds of two runs are from each other where i and j share a slot
cell_apart : (x y : SelectorParts) (owns : Owns) (vs : List Bool) → OwnsSay x y owns vs → (p q i j : ℕ) → i ≤ length x.links → j ≤ length y.links → is_cell x y p q i j ≡ true → value vs (node_lit (suc (length y.links)) together i j) ≡ true →
    IsAside owns.count (number vs (owns.right q)) (number vs (owns.left p)) (i - p) (j - q)
cell_apart x y owns vs says p q i j hi hj c t =
    let a = and_parts (are_joined x.links p i) (are_joined y.links q j && (((i == p) || (j == q)) && both_fit x.links y.links i j)) c in
    let b = and_parts (are_joined y.links q j) (((i == p) || (j == q)) && both_fit x.links y.links i j) a.1 in
    let d = and_parts ((i == p) || (j == q)) (both_fit x.links y.links i j) b.1 in
    says.apart p q i j hi hj a.0 b.0 d.1 t

abbrev pub joint_at : Count → SelectorParts → SelectorParts → ℕ → ℕ → ℕ → ℕ → ℕ → ℕ → Joint
joint_at count x y p q right left i j = record {
  given = Some (node_lit (suc (length y.links)) together i j);
  step = joint_step (run_rests count x.links x.chain p ++ run_rests count y.links y.chain q);
  rest = joint_rest (shared_rests count (run_rests count x.links x.chain p) (run_rests count y.links y.chain q) (i - p) (j - q));
  right = right;
  left = left;
}

-- what is known of a cell, of a run so far from the left one
cell_says : (x y : SelectorParts) (owns : Owns) (vs : List Bool) → OwnsSay x y owns vs → (p q first right left i j : ℕ) → i ≤ length x.links → j ≤ length y.links → joint_step (run_rests owns.count x.links x.chain p ++ run_rests owns.count y.links y.chain q) ≤ most_joint →
    (IsAside owns.count (number vs (owns.right q)) (number vs (owns.left p)) (i - p) (j - q) → IsAside owns.count (number vs (owns.left p)) first right left) →
    AllByRecursion (JointSays owns.count vs first) (cell_joint owns.count x y p q right left i j)
cell_says x y owns vs says p q first right left i j hi hj few to =
    all_if (JointSays owns.count vs first) (is_cell x y p q i j) (joint_at owns.count x y p q right left i j ∷ []) (λ c. (λ given. known (cell_apart x y owns vs says p q i j hi hj c given), tt))
  where
    known : IsAside owns.count (number vs (owns.right q)) (number vs (owns.left p)) (i - p) (j - q) →
        (n : ℕ) × IsAside owns.count n first right left × (joint_rest (shared_rests owns.count (run_rests owns.count x.links x.chain p) (run_rests owns.count y.links y.chain q) (i - p) (j - q)) ≡ Some (n % joint_step (run_rests owns.count x.links x.chain p ++ run_rests owns.count y.links y.chain q)))
    known far = (
      number vs (owns.left p),
      to far,
      shared_says owns.count (run_rests owns.count x.links x.chain p) (run_rests owns.count y.links y.chain q) (number vs (owns.left p)) (number vs (owns.right q)) (i - p) (j - q) far (says.left p) (says.right q) few,
    )

all_cells : (Q : Joint → Type 0) (g : Bool) (m n : ℕ) (make : ℕ → ℕ → List Joint) → (g ≡ true → (i j : ℕ) → i < m → j < n → AllByRecursion Q (make i j)) → AllByRecursion Q (only_if g (each_below m (λ i. each_below n (λ j. make i j))))
all_cells Q g m n make each =
    all_if Q g (each_below m (λ i. each_below n (λ j. make i j))) (λ e. all_each Q m (λ i. each_below n (λ j. make i j)) (λ i hi. all_each Q n (λ j. make i j) (λ j hj. each e i j hi hj)))

few_joint : (starts : Bool) (rs rx ry : List Remainder) → (starts && (nat_le 1 (length rs) && is_joint rx ry)) ≡ true → joint_step (rx ++ ry) ≤ most_joint
few_joint starts rs rx ry e = leb-true (joint_step (rx ++ ry)) most_joint (and_parts (nat_le 1 (length rs)) (is_joint rx ry) (and_parts starts (nat_le 1 (length rs) && is_joint rx ry) e).1).1

pub left_known : (x y : SelectorParts) (owns : Owns) (vs : List Bool) → OwnsSay x y owns vs → (p : ℕ) → AllByRecursion (JointSays owns.count vs (number vs (owns.left p))) (left_joints owns.count x y p)
left_known x y owns vs says p =
    all_of_both (JointSays owns.count vs (number vs (owns.left p))) (own_joint (rx p)) (each_below (suc (length y.links)) (left_cells owns.count x y p)) (own_says owns.count vs (number vs (owns.left p)) (rx p) (says.left p))
    (all_each (JointSays owns.count vs (number vs (owns.left p))) (suc (length y.links)) (left_cells owns.count x y p) (λ q hq.
    all_cells (JointSays owns.count vs (number vs (owns.left p))) (starts_run y.links q && (nat_le 1 (length (ry q)) && is_joint (rx p) (ry q))) (suc (length x.links)) (suc (length y.links)) (λ i j. cell_joint owns.count x y p q 0 0 i j) (λ e i j hi hj.
    cell_says x y owns vs says p q (number vs (owns.left p)) 0 0 i j (omega arith) (omega arith) (few_joint (starts_run y.links q) (ry q) (rx p) (ry q) e) (λ _. aside_none owns.count (number vs (owns.left p))))))
  where
    rx : ℕ → List Remainder
    rx k = run_rests owns.count x.links x.chain k

    ry : ℕ → List Remainder
    ry k = run_rests owns.count y.links y.chain k

pub right_known : (x y : SelectorParts) (owns : Owns) (vs : List Bool) → OwnsSay x y owns vs → (q : ℕ) → AllByRecursion (JointSays owns.count vs (number vs (owns.right q))) (right_joints owns.count x y q)
right_known x y owns vs says q =
    all_of_both (JointSays owns.count vs (number vs (owns.right q))) (own_joint (ry q)) (each_below (suc (length x.links)) (right_cells owns.count x y q)) (own_says owns.count vs (number vs (owns.right q)) (ry q) (says.right q))
    (all_each (JointSays owns.count vs (number vs (owns.right q))) (suc (length x.links)) (right_cells owns.count x y q) (λ p hp.
    all_cells (JointSays owns.count vs (number vs (owns.right q))) (starts_run x.links p && (nat_le 1 (length (rx p)) && is_joint (rx p) (ry q))) (suc (length x.links)) (suc (length y.links)) (λ i j. cell_joint owns.count x y p q (j - q) (i - p) i j) (λ e i j hi hj.
    cell_says x y owns vs says p q (number vs (owns.right q)) (j - q) (i - p) i j (omega arith) (omega arith) (few_joint (starts_run x.links p) (rx p) (rx p) (ry q) e) (λ far. aside_back owns.count (number vs (owns.right q)) (number vs (owns.left p)) (i - p) (j - q) far))))
  where
    rx : ℕ → List Remainder
    rx k = run_rests owns.count x.links x.chain k

    ry : ℕ → List Remainder
    ry k = run_rests owns.count y.links y.chain k

-- its literals are nodes
abbrev pub GivenBelow : ℕ → Joint → Type 0
GivenBelow v joint = IsTrue (option_below v joint.given)

own_below : (v : ℕ) (rs : List Remainder) → AllByRecursion (GivenBelow v) (own_joint rs)
own_below v rs = all_if (GivenBelow v) (nat_le (joint_step rs) most_joint) (record { given = None; step = joint_step rs; rest = joint_rest rs; right = 0; left = 0 } ∷ []) (λ e. (refl, tt))

cell_below : (v : ℕ) (count : Count) (x y : SelectorParts) (p q right left i j : ℕ) → 3 * (suc (length x.links) * suc (length y.links)) ≤ v → i ≤ length x.links → j ≤ length y.links → AllByRecursion (GivenBelow v) (cell_joint count x y p q right left i j)
cell_below v count x y p q right left i j room hi hj =
    all_if (GivenBelow v) (is_cell x y p q i j) (joint_at count x y p q right left i j ∷ []) (λ c. (node_below (length x.links) (length y.links) together i j v hi hj room, tt))

pub left_below : (v : ℕ) (count : Count) (x y : SelectorParts) (p : ℕ) → 3 * (suc (length x.links) * suc (length y.links)) ≤ v → AllByRecursion (GivenBelow v) (left_joints count x y p)
left_below v count x y p room =
    all_of_both (GivenBelow v) (own_joint (run_rests count x.links x.chain p)) (each_below (suc (length y.links)) (left_cells count x y p)) (own_below v (run_rests count x.links x.chain p))
    (all_each (GivenBelow v) (suc (length y.links)) (left_cells count x y p) (λ q hq.
    all_cells (GivenBelow v) (starts_run y.links q && (nat_le 1 (length (run_rests count y.links y.chain q)) && is_joint (run_rests count x.links x.chain p) (run_rests count y.links y.chain q))) (suc (length x.links)) (suc (length y.links)) (λ i j. cell_joint count x y p q 0 0 i j) (λ e i j hi hj.
    cell_below v count x y p q 0 0 i j room (omega arith) (omega arith))))

pub right_below : (v : ℕ) (count : Count) (x y : SelectorParts) (q : ℕ) → 3 * (suc (length x.links) * suc (length y.links)) ≤ v → AllByRecursion (GivenBelow v) (right_joints count x y q)
right_below v count x y q room =
    all_of_both (GivenBelow v) (own_joint (run_rests count y.links y.chain q)) (each_below (suc (length x.links)) (right_cells count x y q)) (own_below v (run_rests count y.links y.chain q))
    (all_each (GivenBelow v) (suc (length x.links)) (right_cells count x y q) (λ p hp.
    all_cells (GivenBelow v) (starts_run x.links p && (nat_le 1 (length (run_rests count x.links x.chain p)) && is_joint (run_rests count x.links x.chain p) (run_rests count y.links y.chain q))) (suc (length x.links)) (suc (length y.links)) (λ i j. cell_joint count x y p q (j - q) (i - p) i j) (λ e i j hi hj.
    cell_below v count x y p q (j - q) (i - p) i j room (omega arith) (omega arith))))
