-- The whole formula has fewer than 2^24 variables and 2^32 clauses.
use Rattle.std.proofs.Common.{Bool, List, [], arith, false, length, not, suc, true, ℕ, ◌*◌, ◌++◌, ◌+◌, ◌<◌, ◌^◌, ◌∷◌, ◌≤◌}
use Rattle.std.proofs.Math.Nat.{mul-le-mul_right}
use Rattle.std.proofs.lemmas.List.{length-append}
use Rattle.std.specs.Prelude.{if◌then◌else◌, nat_lt, ◌==◌}
use Rattle.formula_laws.proofs.Sizes.HintedSizes.{hints_size}
use Rattle.formula_laws.proofs.Sizes.Sizes.{Sized, both_size, clauses_size, digits_size, implied_size, less_size, more_size, most_each, most_size, only_size, run_size, when_size}
use Rattle.formula_laws.proofs.Sizes.TestSizes.{compound_size, product_at_most}
use Rattle.formula_laws.proofs.Whole.Filling.{length_literals}
use Rattle.formula_laws.specs.Allowed.{Allowed, node_clauses, node_fits, whole_clauses}
use Rattle.formula_laws.specs.Counts.{Names, implied, steps_below, with_counts, with_equal, with_order_left, with_order_right, with_run}
use Rattle.formula_laws.specs.Formula.{digits_for, first_vars, formula_of, formula_with, names_of, with_all, with_conditions, with_numbers, with_path, with_root, with_tests}
use Rattle.formula_laws.specs.Path.{both_fit, each_below, last_clauses, next_clauses, node_lit, path_clauses, unless}
use Rattle.formula_laws.specs.Positions.{with_positions}
use Rattle.formula_laws.specs.Relations.{literals, same_digits}
use Rattle.formula_laws.specs.Root.{root_clauses, top_clauses}
use Rattle.cnf.specs.Cnf.{Cnf}
use Rattle.cnf.specs.Gates.{GrowsBy, with_clauses}
use Rattle.cnf.specs.Lits.{negation}
use Rattle.cnf.specs.declared.lit.Lit.{Lit}
use Rattle.css_model.specs.Documents.SelectorParts.{SelectorParts}
use Rattle.css_model.specs.declared.selector.Combinator.{Combinator}
use Rattle.grid_laws.specs.Grid.{Lays, goes_up_at, left_alone, right_alone, together}
use Rattle.grid_laws.specs.Solved.{nth_compound, numbers_asked}

unless_size : (b : Bool) (l : Lit) → length (unless b l) ≤ 1
unless_size b l = only_size (not b) ((negation l ∷ []) ∷ [])

three_unless : (a b c : Bool) (k l m : Lit) → length (unless a k ++ (unless b l ++ unless c m)) ≤ 3
three_unless a b c k l m =
    let e = length-append (unless a k) (unless b l ++ unless c m) in
    let e' = length-append (unless b l) (unless c m) in
    let x = unless_size a k in let y = unless_size b l in let z = unless_size c m in omega arith

path_size : (m n : ℕ) → m ≤ 11 → n ≤ 11 → length (path_clauses m n) ≤ 433
path_size m n hm hn =
    let l = most_each 12 (suc m) (λ i. each_below (suc n) (λ j. next_clauses m n i j)) (12 * 3) (omega arith) (λ i. most_each 12 (suc n) (λ j. next_clauses m n i j) 3 (omega arith) (λ j. only_size (nat_lt (i + j) (m + n)) _)) in
    omega arith

nodes_size : (m n : ℕ) (fits : Lays → ℕ → ℕ → Bool) → m ≤ 11 → n ≤ 11 → length (node_clauses m n fits) ≤ 432
nodes_size m n fits hm hn =
    let l = most_each 12 (suc m) _ (12 * 3) (omega arith) (λ i. most_each 12 (suc n) _ 3 (omega arith) (λ j. three_unless (fits left_alone i j) (fits right_alone i j) (fits together i j)
    (node_lit (suc n) left_alone i j) (node_lit (suc n) right_alone i j) (node_lit (suc n) together i j))) in
    omega arith

same_both : (x y z u : List Lit) → length x ≤ 25 → length z ≤ 25 → length (same_digits x y ++ same_digits z u) ≤ 100
same_both x y z u hx hz = let e = length-append (same_digits x y) (same_digits z u) in let a = digits_size x y in let b = digits_size z u in omega arith

top_size : (r : Lit) (up : Bool) (b a : List Lit) → length b ≤ 25 → length a ≤ 25 → length (top_clauses r up b a) ≤ 101
top_size r up b a hb ha =
    let e = length-append (unless up r) (implied r (same_digits b [] ++ same_digits a [])) in
    let u = unless_size up r in
    let i = implied_size r (same_digits b [] ++ same_digits a []) in
    let s = same_both b [] a [] hb ha in omega arith

-- all numbers have at most 25 digits, and no compound has more than 64 tests
pub record Limits (x y : SelectorParts) (names : Names) : Type 0 where
  pub left : length x.links ≤ 11
  pub right : length y.links ≤ 11
  pub bx : (i : ℕ) → length (names.bx i) ≤ 25
  pub ax : (i : ℕ) → length (names.ax i) ≤ 25
  pub by : (j : ℕ) → length (names.by j) ≤ 25
  pub ay : (j : ℕ) → length (names.ay j) ≤ 25
  pub left_tests : (i : ℕ) → length (nth_compound x.chain i) ≤ 64
  pub right_tests : (j : ℕ) → length (nth_compound y.chain j) ≤ 64

counts_size : (x y : SelectorParts) (names : Names) → Limits x y names → Sized (λ f. with_counts x.links y.links names f) ((((11 * 181 + 11 * 181) + 12 * (12 * 0)) + 12 * (12 * 78)) + 12 * (12 * 78)) ((((11 * 1675 + 11 * 1675) + 12 * (12 * 100)) + 12 * (12 * 581)) + 12 * (12 * 581))
counts_size x y names h =
    both_size _ _ _ _ _ _ (both_size _ _ _ _ _ _ (both_size _ _ _ _ _ _ (both_size _ _ _ _ _ _ (run x.links names.bx names.ax h.left h.bx h.ax) (run y.links names.by names.ay h.right h.by h.ay))
    (most_size 12 (suc (length x.links)) (λ i f. steps_below (suc (length y.links)) (with_equal x.links y.links names i) f) (12 * 0) (12 * 100) (let l = h.left in omega arith) (λ i hi. most_size 12 (suc (length y.links)) (with_equal x.links y.links names i) 0 100 (let l = h.right in omega arith) (λ j hj.
    when_size (both_fit x.links y.links i j) _ 0 100 (clauses_size (implied (node_lit (suc (length y.links)) together i j) (same_digits (names.bx i) (names.by j) ++ same_digits (names.ax i) (names.ay j))) 100
    (let e = implied_size (node_lit (suc (length y.links)) together i j) (same_digits (names.bx i) (names.by j) ++ same_digits (names.ax i) (names.ay j)) in let s = same_both (names.bx i) (names.by j) (names.ax i) (names.ay j) (h.bx i) (h.ax i) in omega arith))))))
    (most_size 12 (length x.links) (λ i f. steps_below (suc (length y.links)) (with_order_left x.links y.links names i) f) (12 * 78) (12 * 581) (let l = h.left in omega arith) (λ i hi. most_size 12 (suc (length y.links)) (with_order_left x.links y.links names i) 78 581 (let l = h.right in omega arith) (λ j hj.
    when_size _ _ 78 581 (less_size 25 _ (names.bx (suc i)) (names.by j) (h.bx (suc i)) (h.by j))))))
    (most_size 12 (suc (length x.links)) (λ i f. steps_below (length y.links) (with_order_right x.links y.links names i) f) (12 * 78) (12 * 581) (let l = h.left in omega arith) (λ i hi. most_size 12 (length y.links) (with_order_right x.links y.links names i) 78 581 (let l = h.right in omega arith) (λ j hj.
    when_size _ _ 78 581 (less_size 25 _ (names.by (suc j)) (names.bx i) (h.by (suc j)) (h.bx i)))))
  where
    run : (links : List Combinator) (b a : ℕ → List Lit) → length links ≤ 11 → ((i : ℕ) → length (b i) ≤ 25) → ((i : ℕ) → length (a i) ≤ 25) → Sized (λ f. with_run links b a names.one f) (11 * 181) (11 * 1675)
    run links b a few hb ha = more_size (λ f. with_run links b a names.one f) (length links * 181) (length links * 1675) (11 * 181) (11 * 1675) (mul-le-mul_right 181 few) (mul-le-mul_right 1675 few) (run_size 25 links b a names.one (λ i _. hb i) (λ i _. ha i))

tests_size : (x y : SelectorParts) (names : Names) → Limits x y names → Sized (λ f. with_tests x y names f) (12 * (64 * 2543) + 12 * (64 * 2543)) (12 * (64 * 18776) + 12 * (64 * 18776))
tests_size x y names h = both_size _ _ _ _ _ _
    (most_size 12 (suc (length x.links)) (λ i f. with_positions (i == length x.links) names.rx names.child (names.bx i) (names.ax i) (nth_compound x.chain i) f) (64 * 2543) (64 * 18776) (let l = h.left in omega arith)
    (λ i hi. more_size _ (length (nth_compound x.chain i) * 2543) (length (nth_compound x.chain i) * 18776) (64 * 2543) (64 * 18776) (mul-le-mul_right 2543 (h.left_tests i)) (mul-le-mul_right 18776 (h.left_tests i))
    (compound_size 25 (i == length x.links) names.rx names.child (names.bx i) (names.ax i) (nth_compound x.chain i) (h.bx i) (h.ax i))))
    (most_size 12 (suc (length y.links)) (λ j f. with_positions (j == length y.links) names.ry names.child (names.by j) (names.ay j) (nth_compound y.chain j) f) (64 * 2543) (64 * 18776) (let l = h.right in omega arith)
    (λ j hj. more_size _ (length (nth_compound y.chain j) * 2543) (length (nth_compound y.chain j) * 18776) (64 * 2543) (64 * 18776) (mul-le-mul_right 2543 (h.right_tests j)) (mul-le-mul_right 18776 (h.right_tests j))
    (compound_size 25 (j == length y.links) names.ry names.child (names.by j) (names.ay j) (nth_compound y.chain j) (h.by j) (h.ay j))))

-- all conditions
conditions_size : (x y : SelectorParts) (allowed : Allowed) (names : Names) → Limits x y names → (f : Cnf) → GrowsBy f (with_conditions x y allowed names f) 3932500 29100000
conditions_size x y allowed names h f =
    let m = length x.links in
    let n = length y.links in
    let p = with_path x y f in
    let sp = both_size _ _ _ _ _ _ (clauses_size (path_clauses m n) 433 (path_size m n h.left h.right)) (clauses_size (last_clauses m n) 4 (omega arith)) f in
    let c = with_numbers x y names p in
    let sc = when_size (numbers_asked x y) (λ f. with_counts x.links y.links names (with_clauses f ((names.one ∷ []) ∷ []))) _ _ (both_size _ _ _ _ _ _ (clauses_size ((names.one ∷ []) ∷ []) 1 (omega arith)) (counts_size x y names h)) p in
    let r = with_root x y names c in
    let sr = both_size _ _ _ _ _ _ (both_size _ _ _ _ _ _ (both_size _ _ _ _ _ _ (clauses_size (root_clauses names.rx names.root (node_lit (suc n) right_alone m n)) 3 (omega arith)) (clauses_size (root_clauses names.ry names.root (node_lit (suc n) left_alone m n)) 3 (omega arith)))
    (clauses_size (top_clauses names.rx (goes_up_at x.links m) (names.bx m) (names.ax m)) 101 (top_size names.rx (goes_up_at x.links m) (names.bx m) (names.ax m) (h.bx m) (h.ax m))))
    (clauses_size (top_clauses names.ry (goes_up_at y.links n) (names.by n) (names.ay n)) 101 (top_size names.ry (goes_up_at y.links n) (names.by n) (names.ay n) (h.by n) (h.ay n))) c in
    let t = with_tests x y names r in
    let st = tests_size x y names h r in
    let sn = both_size _ _ _ _ _ _ (clauses_size (node_clauses m n (node_fits x y allowed)) 432 (nodes_size m n (node_fits x y allowed) h.left h.right)) (clauses_size (whole_clauses allowed.whole) 1 (only_size (not allowed.whole) ([] ∷ []))) t in
    record {
      vars_bound = let a = sp.vars_bound in let d = sc.vars_bound in let e = sr.vars_bound in let g = st.vars_bound in let k = sn.vars_bound in omega arith;
      clauses_bound = let a = sp.clauses_bound in let d = sc.clauses_bound in let e = sr.clauses_bound in let g = st.clauses_bound in let k = sn.clauses_bound in omega arith;
    }

-- with their hints
all_size : (x y : SelectorParts) (allowed : Allowed) (names : Names) → Limits x y names → (f : Cnf) → GrowsBy f (with_all x y allowed names f) 8100000 121000000
all_size x y allowed names h f =
    let c = conditions_size x y allowed names h f in
    let s = hints_size x y names h.left h.right h.bx h.ax h.by h.ay h.left_tests h.right_tests (with_conditions x y allowed names f) in
    record {
      vars_bound = let a = c.vars_bound in let b = s.vars_bound in omega arith;
      clauses_bound = let a = c.clauses_bound in let b = s.clauses_bound in omega arith;
    }

with_size : (w : ℕ) (x y : SelectorParts) (allowed : Allowed) → w ≤ 25 → length x.links ≤ 11 → length y.links ≤ 11 → ((i : ℕ) → length (nth_compound x.chain i) ≤ 64) → ((j : ℕ) → length (nth_compound y.chain j) ≤ 64) →
    ((formula_with w allowed x y).vars < 2 ^ 24) × (length (formula_with w allowed x y).clauses < 2 ^ 32)
with_size w x y allowed hw hx hy tx ty =
    let m = length x.links in
    let n = length y.links in
    let d : (v : ℕ) → length (literals v w) ≤ 25 = λ v. (let e = length_literals v w in omega arith) in
    let s = all_size x y allowed (names_of m n w) (record { left = hx; right = hy; bx = λ i. d _; ax = λ i. d _; by = λ j. d _; ay = λ j. d _; left_tests = tx; right_tests = ty }) (record { vars = first_vars m n w; clauses = [] }) in
    let cells = product_at_most (suc m) (suc n) 12 12 (omega arith) (omega arith) in
    let bits = product_at_most (2 * suc m + 2 * suc n) w 48 25 (omega arith) hw in
    (let a = s.vars_bound in omega arith, let a = s.clauses_bound in omega arith)

pub formula_size : (w : ℕ) (x y : SelectorParts) (allowed : Allowed) → w ≤ 25 → length x.links ≤ 11 → length y.links ≤ 11 → ((i : ℕ) → length (nth_compound x.chain i) ≤ 64) → ((j : ℕ) → length (nth_compound y.chain j) ≤ 64) →
    ((formula_of w allowed x y).vars < 2 ^ 24) × (length (formula_of w allowed x y).clauses < 2 ^ 32)
formula_size w x y allowed hw hx hy tx ty = with_size (digits_for w x y) x y allowed (fewer (numbers_asked x y)) hx hy tx ty
  where
    fewer : (b : Bool) → (if b then w else 0) ≤ 25
    fewer true = hw
    fewer false = omega arith
