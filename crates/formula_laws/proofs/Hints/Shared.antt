-- Hints on two selectors' runs that share a slot.
use Rattle.std.proofs.Common.{Bool, IsTrue, List, ap, arith, length, map, suc, sym, true, ℕ, ◌%◌, ◌&&◌, ◌*◌, ◌++◌, ◌-◌, ◌<◌, ◌||◌, ◌∙◌, ◌≡◌, ◌≤◌}
use Rattle.std.proofs.lemmas.Bool.{and_parts, leb-true}
use Rattle.std.specs.List.{AllByRecursion}
use Rattle.std.specs.Prelude.{nat_le, ◌==◌}
use Rattle.cnf.specs.Lits.{are_below}
use Rattle.cnf.specs.Sums.{number}
use Rattle.cnf.specs.Values.{all_hold, holds, value}
use Rattle.cnf.specs.declared.lit.Lit.{Lit}
use Rattle.css_model.specs.Documents.SelectorParts.{SelectorParts}
use Rattle.formula_laws.proofs.Hints.Hint.{Hint, IsStable, when_hint}
use Rattle.formula_laws.proofs.Hints.Lists.{all_mapped, all_of_both, passes_each, passes_if}
use Rattle.formula_laws.proofs.Hints.Rests.{division_hint, rest_below, rests_hold}
use Rattle.formula_laws.proofs.Hints.Runs.{IsAside, aside_leaves, aside_step, run_steps}
use Rattle.formula_laws.proofs.Items.MoreItems.{implied_back, implied_below}
use Rattle.formula_laws.proofs.Items.Ranges.{node_below}
use Rattle.formula_laws.specs.Asked.{are_joined, aside, run_rests, starts_run}
use Rattle.formula_laws.specs.Counts.{implied}
use Rattle.formula_laws.specs.Hints.{Owns, cell_rests, rest_clauses, shared_rests, with_shared}
use Rattle.formula_laws.specs.Path.{both_fit, each_below, node_lit}
use Rattle.formula_laws.specs.declared.count.Count.{Count}
use Rattle.grid_laws.specs.Grid.{together}
use Rattle.remainders.proofs.ForCallers.{joint_positive, joint_same}
use Rattle.remainders.specs.Remainders.{Leaves, joint_rest, joint_step, most_joint}
use Rattle.remainders.specs.declared.remainder.Remainder.{Remainder}

-- what two selectors say of one kind of numbers
pub record OwnsSay (x y : SelectorParts) (owns : Owns) (vs : List Bool) : Type 0 where
  pub left : (p : ℕ) → AllByRecursion (Leaves (number vs (owns.left p))) (run_rests owns.count x.links x.chain p)
  pub right : (q : ℕ) → AllByRecursion (Leaves (number vs (owns.right q))) (run_rests owns.count y.links y.chain q)
  pub apart : (p q i j : ℕ) → i ≤ length x.links → j ≤ length y.links → are_joined x.links p i ≡ true → are_joined y.links q j ≡ true → both_fit x.links y.links i j ≡ true → value vs (node_lit (suc (length y.links)) together i j) ≡ true →
      IsAside owns.count (number vs (owns.right q)) (number vs (owns.left p)) (i - p) (j - q)

-- where the compounds share a slot, the first number leaves what both runs ask
pub shared_leaves : (count : Count) (rx ry : List Remainder) (n m i j : ℕ) → IsAside count m n i j → AllByRecursion (Leaves n) rx → AllByRecursion (Leaves m) ry → AllByRecursion (Leaves n) (shared_rests count rx ry i j)
shared_leaves count rx ry n m i j far left right =
    all_of_both (Leaves n) rx (map (aside count i j) ry) left (all_mapped (Leaves m) (Leaves n) (aside count i j) (λ r h. aside_leaves count m n i j r far h) ry right)

pub shared_hint : (base : ℕ) (x y : SelectorParts) (owns : Owns) (p q : ℕ) (P : List Bool → Type 0) → IsStable base P → 3 * (suc (length x.links) * suc (length y.links)) ≤ base → IsTrue (are_below base (owns.left p)) →
    ((vs : List Bool) → P vs → OwnsSay x y owns vs) → Hint base (with_shared x y owns p q) P
shared_hint base x y owns p q P stable nodes hn says =
    when_hint base _ _ P (λ e.
    let few = leb-true (joint_step (rx ++ ry)) most_joint (and_parts (nat_le 1 (length ry)) (nat_le (joint_step (rx ++ ry)) most_joint)
    (and_parts (nat_le 1 (length rx)) (nat_le 1 (length ry) && nat_le (joint_step (rx ++ ry)) most_joint)
    (and_parts (starts_run y.links q) (nat_le 1 (length rx) && (nat_le 1 (length ry) && nat_le (joint_step (rx ++ ry)) most_joint))
    (and_parts (starts_run x.links p) (starts_run y.links q && (nat_le 1 (length rx) && (nat_le 1 (length ry) && nat_le (joint_step (rx ++ ry)) most_joint))) e).1).1).1).1 in
    division_hint base (joint_step (rx ++ ry)) (owns.left p) (λ remainder. each_below (suc (length x.links)) (λ i. each_below (suc (length y.links)) (λ j. cell_rests owns.count x y p q remainder i j))) P stable hn
    (joint_positive (rx ++ ry) (all_of_both (λ (r : Remainder). 0 < r.step) rx ry (run_steps owns.count x.links x.chain p) (run_steps owns.count y.links y.chain q))) few
    (λ v remainder low h. passes_each (are_below v) (suc (length x.links)) (λ i. each_below (suc (length y.links)) (λ j. cell_rests owns.count x y p q remainder i j)) (λ i hi. passes_each (are_below v) (suc (length y.links)) (λ j. cell_rests owns.count x y p q remainder i j) (λ j hj.
    passes_if (are_below v) (is_cell i j) (implied (node_lit (suc (length y.links)) together i j) (clauses_at remainder i j)) (λ _. implied_below v (node_lit (suc (length y.links)) together i j) (clauses_at remainder i j)
    (node_below (length x.links) (length y.links) together i j v (omega arith) (omega arith) (omega arith))
    (rest_below v remainder (joint_rest (shared_rests owns.count rx ry (i - p) (j - q))) h)))))
    (λ vs remainder s is. passes_each (holds vs) (suc (length x.links)) (λ i. each_below (suc (length y.links)) (λ j. cell_rests owns.count x y p q remainder i j)) (λ i hi. passes_each (holds vs) (suc (length y.links)) (λ j. cell_rests owns.count x y p q remainder i j) (λ j hj.
    passes_if (holds vs) (is_cell i j) (implied (node_lit (suc (length y.links)) together i j) (clauses_at remainder i j)) (λ c. implied_back vs (node_lit (suc (length y.links)) together i j) (clauses_at remainder i j) (λ t. cell vs remainder few s is i j hi hj c t))))))
  where
    rx : List Remainder
    rx = run_rests owns.count x.links x.chain p

    ry : List Remainder
    ry = run_rests owns.count y.links y.chain q

    is_cell : ℕ → ℕ → Bool
    is_cell i j = are_joined x.links p i && (are_joined y.links q j && (((i == p) || (j == q)) && both_fit x.links y.links i j))

    clauses_at : List Lit → ℕ → ℕ → List (List Lit)
    clauses_at remainder i j = rest_clauses remainder (joint_rest (shared_rests owns.count rx ry (i - p) (j - q)))

    same_step : (i j : ℕ) → joint_step (shared_rests owns.count rx ry i j) ≡ joint_step (rx ++ ry)
    same_step i j = joint_same (aside owns.count i j) (aside_step owns.count i j) rx ry

    cell : (vs : List Bool) (remainder : List Lit) → joint_step (rx ++ ry) ≤ most_joint → P vs → number vs remainder ≡ number vs (owns.left p) % joint_step (rx ++ ry) → (i j : ℕ) → i < suc (length x.links) → j < suc (length y.links) →
        is_cell i j ≡ true → value vs (node_lit (suc (length y.links)) together i j) ≡ true → IsTrue (all_hold vs (clauses_at remainder i j))
    cell vs remainder few s is i j hi hj c t =
        let a = and_parts (are_joined x.links p i) (are_joined y.links q j && (((i == p) || (j == q)) && both_fit x.links y.links i j)) c in
        let b = and_parts (are_joined y.links q j) (((i == p) || (j == q)) && both_fit x.links y.links i j) a.1 in
        let d = and_parts ((i == p) || (j == q)) (both_fit x.links y.links i j) b.1 in
        let o = says vs s in
        rests_hold vs (shared_rests owns.count rx ry (i - p) (j - q)) (number vs (owns.left p)) remainder
        (shared_leaves owns.count rx ry (number vs (owns.left p)) (number vs (owns.right q)) (i - p) (j - q) (o.apart p q i j (omega arith) (omega arith) a.0 b.0 d.1 t) (o.left p) (o.right q))
        (let e = same_step (i - p) (j - q) in omega arith)
        (is ∙ ap (λ (k : ℕ). number vs (owns.left p) % k) (sym (same_step (i - p) (j - q))))
