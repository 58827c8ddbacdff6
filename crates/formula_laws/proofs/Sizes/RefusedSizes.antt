-- The sizes of hints on tests that must not hold.
use Rattle.std.proofs.Common.{Bool, List, Option, [], arith, false, length, suc, true, zero, ℕ, ◌*◌, ◌+◌, ◌-◌, ◌∷◌, ◌≤◌}
use Rattle.std.proofs.Math.Nat.{mul-le-mul_right}
use Rattle.std.proofs.lemmas.List.{length-append}
use Rattle.std.specs.List.{cons_option, filter_map, list_any}
use Rattle.std.specs.Prelude.{None, Some, nat_le, ◌&&◌, ◌==◌}
use Rattle.cnf.proofs.ForCallers.{at_least-size}
use Rattle.cnf.specs.Cnf.{Cnf}
use Rattle.cnf.specs.Gates.{GrowsBy, with_clauses}
use Rattle.cnf.specs.Numbers.{with_at_least}
use Rattle.cnf.specs.declared.lit.Lit.{Lit}
use Rattle.css_model.specs.Documents.SelectorParts.{SelectorParts}
use Rattle.css_model.specs.declared.selector.Combinator.{Combinator}
use Rattle.css_model.specs.declared.selector.Simple.{Simple}
use Rattle.formula_laws.proofs.Hints.Joints.{joint_at}
use Rattle.formula_laws.proofs.Sizes.Sizes.{Sized, both_size, more_size, most_size, when_size}
use Rattle.formula_laws.specs.Asked.{are_joined, run_rests, starts_run}
use Rattle.formula_laws.specs.Counts.{Names, steps_below, when}
use Rattle.formula_laws.specs.Hints.{Owns, is_cell}
use Rattle.formula_laws.specs.Path.{each_below, only_if}
use Rattle.formula_laws.specs.Refused.{cell_joint, failing, is_joint, is_met, left_cells, left_joints, met_clause, own_joint, refused_test, right_cells, right_joints, with_each, with_refused, with_refused_chain, with_refused_compound, with_refused_hints, with_refused_test}
use Rattle.formula_laws.specs.declared.count.Count.{Count}
use Rattle.formula_laws.specs.declared.count.Count.TheVariants.{Before, Behind}
use Rattle.formula_laws.specs.declared.joint.Joint.{Joint}
use Rattle.formula_laws.specs.declared.refused.Refused.{Refused}
use Rattle.grid_laws.specs.Solved.{nth_compound}
use Rattle.remainders.specs.Remainders.{joint_rest, joint_step, most_joint}
use Rattle.remainders.specs.declared.remainder.Remainder.{Remainder}

cons_few : {B : Type 0} (o : Option B) (ys : List B) (n : ℕ) → length ys ≤ n → length (cons_option o ys) ≤ suc n
cons_few None ys n l = omega arith
cons_few (Some y) ys n l = omega arith

filter_few : {A B : Type 0} (h : A → Option B) (xs : List A) → length (filter_map h xs) ≤ length xs
filter_few h [] = omega arith
filter_few h (x ∷ xs) = cons_few (h x) (filter_map h xs) (length xs) (filter_few h xs)

only_few : (b : Bool) (xs : List Joint) → length (only_if b xs) ≤ length xs
only_few true xs = omega arith
only_few false xs = omega arith

each_few : (n : ℕ) (make : ℕ → List Joint) (c : ℕ) → ((k : ℕ) → length (make k) ≤ c) → length (each_below n make) ≤ n * c
each_few zero make c each = omega arith
each_few (suc n) make c each = let l = length-append (each_below n make) (make n) in let old = each_few n make c each in let new = each n in omega arith

most_few : (b n : ℕ) (make : ℕ → List Joint) (c : ℕ) → n ≤ b → ((k : ℕ) → length (make k) ≤ c) → length (each_below n make) ≤ b * c
most_few b n make c h each = let l = each_few n make c each in let m = mul-le-mul_right c h in omega arith

-- a part for each item
each_size : {A : Type 0} (step : A → Cnf → Cnf) (v c : ℕ) → ((x : A) → Sized (step x) v c) → (xs : List A) → Sized (λ f. with_each step xs f) (length xs * v) (length xs * c)
each_size step v c each [] f = record { vars_bound = omega arith; clauses_bound = omega arith }
each_size step v c each (x ∷ xs) f = join f (step x f) (with_each step xs (step x f)) (length xs) (each x f) (each_size step v c each xs (step x f))
  where
    join : (f g h : Cnf) (n : ℕ) → GrowsBy f g v c → GrowsBy g h (n * v) (n * c) → GrowsBy f h (suc n * v) (suc n * c)
    join f g h n s t = record { vars_bound = let a = s.vars_bound in let b = t.vars_bound in omega arith; clauses_bound = let a = s.clauses_bound in let b = t.clauses_bound in omega arith }

cells_few : (g : Bool) (m n : ℕ) (make : ℕ → ℕ → List Joint) → m ≤ 12 → n ≤ 12 → ((i j : ℕ) → length (make i j) ≤ 1) → length (only_if g (each_below m (λ i. each_below n (λ j. make i j)))) ≤ 12 * (12 * 1)
cells_few g m n make hm hn each =
    let o = only_few g (each_below m (λ i. each_below n (λ j. make i j))) in
    let l = most_few 12 m (λ i. each_below n (λ j. make i j)) (12 * 1) hm (λ i. most_few 12 n (λ j. make i j) 1 hn (λ j. each i j)) in
    omega arith

own_few : (rs : List Remainder) → length (own_joint rs) ≤ 1
own_few rs = only_few (nat_le (joint_step rs) most_joint) (record { given = None; step = joint_step rs; rest = joint_rest rs; right = 0; left = 0 } ∷ [])

left_few : (count : Count) (x y : SelectorParts) (p : ℕ) → length x.links ≤ 11 → length y.links ≤ 11 → length (left_joints count x y p) ≤ 1729
left_few count x y p hx hy =
    let e = length-append (own_joint (run_rests count x.links x.chain p)) (each_below (suc (length y.links)) (left_cells count x y p)) in
    let o = own_few (run_rests count x.links x.chain p) in
    let l = most_few 12 (suc (length y.links)) (left_cells count x y p) (12 * (12 * 1)) (omega arith) (λ q.
    cells_few (starts_run y.links q && (nat_le 1 (length (run_rests count y.links y.chain q)) && is_joint (run_rests count x.links x.chain p) (run_rests count y.links y.chain q))) (suc (length x.links)) (suc (length y.links)) (λ i j. cell_joint count x y p q 0 0 i j) (omega arith) (omega arith)
    (λ i j. only_few (is_cell x y p q i j) (joint_at count x y p q 0 0 i j ∷ []))) in
    omega arith

right_few : (count : Count) (x y : SelectorParts) (q : ℕ) → length x.links ≤ 11 → length y.links ≤ 11 → length (right_joints count x y q) ≤ 1729
right_few count x y q hx hy =
    let e = length-append (own_joint (run_rests count y.links y.chain q)) (each_below (suc (length x.links)) (right_cells count x y q)) in
    let o = own_few (run_rests count y.links y.chain q) in
    let l = most_few 12 (suc (length x.links)) (right_cells count x y q) (12 * (12 * 1)) (omega arith) (λ p.
    cells_few (starts_run x.links p && (nat_le 1 (length (run_rests count x.links x.chain p)) && is_joint (run_rests count x.links x.chain p) (run_rests count y.links y.chain q))) (suc (length x.links)) (suc (length y.links)) (λ i j. cell_joint count x y p q (j - q) (i - p) i j) (omega arith) (omega arith)
    (λ i j. only_few (is_cell x y p q i j) (joint_at count x y p q (j - q) (i - p) i j ∷ []))) in
    omega arith

test_size : (count : Count) (joints : List Joint) (far : ℕ) (n others : List Lit) (r : Refused) → length n ≤ 25 → length joints ≤ 1729 → Sized (with_refused_test count joints far n others r) 26 1805
test_size count joints far n others r hn hj =
    when_size (list_any (is_met count far r.rest) joints) (λ f. let g = failing n r f in with_clauses g.0 (filter_map (met_clause count far r.rest (g.1 ∷ others)) joints)) 26 1805 (λ f.
    let g = failing n r f in
    let s = at_least-size f n r.bound in
    let l = filter_few (met_clause count far r.rest (g.1 ∷ others)) joints in
    let e = length-append (with_at_least f n r.bound).0.clauses (filter_map (met_clause count far r.rest (g.1 ∷ others)) joints) in
    record { vars_bound = let x = s.vars_bound in omega arith; clauses_bound = let x = s.clauses_bound in omega arith })

compound_size : (count : Count) (links : List Combinator) (chain : List (List Simple)) (joints : List Joint) (own : ℕ → List Lit) (root : Lit) (p k : ℕ) → length (own k) ≤ 25 → length joints ≤ 1729 → length (nth_compound chain k) ≤ 64 →
    Sized (with_refused_compound count links chain joints own root p k) (64 * 26) (64 * 1805)
compound_size count links chain joints own root p k hn hj tests =
    let few = filter_few (refused_test count) (nth_compound chain k) in
    let most : length (filter_map (refused_test count) (nth_compound chain k)) ≤ 64 = omega arith in
    when_size (are_joined links p k) (λ f. with_each (with_refused_test count joints (k - p) (own k) (only_if (k == length links) (root ∷ []))) (filter_map (refused_test count) (nth_compound chain k)) f) (64 * 26) (64 * 1805)
    (more_size (λ f. with_each (with_refused_test count joints (k - p) (own k) (only_if (k == length links) (root ∷ []))) (filter_map (refused_test count) (nth_compound chain k)) f) (length (filter_map (refused_test count) (nth_compound chain k)) * 26) (length (filter_map (refused_test count) (nth_compound chain k)) * 1805) (64 * 26) (64 * 1805) (mul-le-mul_right 26 most) (mul-le-mul_right 1805 most)
    (each_size (with_refused_test count joints (k - p) (own k) (only_if (k == length links) (root ∷ []))) 26 1805 (λ r. test_size count joints (k - p) (own k) (only_if (k == length links) (root ∷ [])) r hn hj)
    (filter_map (refused_test count) (nth_compound chain k))))

chain_size : (count : Count) (links : List Combinator) (chain : List (List Simple)) (joints : ℕ → List Joint) (own : ℕ → List Lit) (root : Lit) → length links ≤ 11 → ((k : ℕ) → length (own k) ≤ 25) → ((p : ℕ) → length (joints p) ≤ 1729) → ((k : ℕ) → length (nth_compound chain k) ≤ 64) →
    Sized (λ f. with_refused_chain count links chain joints own root f) (12 * (12 * (64 * 26))) (12 * (12 * (64 * 1805)))
chain_size count links chain joints own root few hn hj tests =
    most_size 12 (suc (length links)) (λ p f. when (starts_run links p) (steps_below (suc (length links)) (with_refused_compound count links chain (joints p) own root p)) f) (12 * (64 * 26)) (12 * (64 * 1805)) (omega arith) (λ p hp.
    when_size (starts_run links p) (λ f. steps_below (suc (length links)) (with_refused_compound count links chain (joints p) own root p) f) (12 * (64 * 26)) (12 * (64 * 1805))
    (most_size 12 (suc (length links)) (with_refused_compound count links chain (joints p) own root p) (64 * 26) (64 * 1805) (omega arith) (λ k hk. compound_size count links chain (joints p) own root p k (hn k) (hj p) (tests k))))

kind_size : (x y : SelectorParts) (owns : Owns) (rx ry : Lit) → length x.links ≤ 11 → length y.links ≤ 11 → ((p : ℕ) → length (owns.left p) ≤ 25) → ((q : ℕ) → length (owns.right q) ≤ 25) →
    ((i : ℕ) → length (nth_compound x.chain i) ≤ 64) → ((j : ℕ) → length (nth_compound y.chain j) ≤ 64) →
    Sized (λ f. with_refused x y owns rx ry f) (12 * (12 * (64 * 26)) + 12 * (12 * (64 * 26))) (12 * (12 * (64 * 1805)) + 12 * (12 * (64 * 1805)))
kind_size x y owns rx ry hx hy left right tx ty =
    both_size (λ f. with_refused_chain owns.count x.links x.chain (left_joints owns.count x y) owns.left rx f) (λ f. with_refused_chain owns.count y.links y.chain (right_joints owns.count x y) owns.right ry f)
    (12 * (12 * (64 * 26))) (12 * (12 * (64 * 1805))) (12 * (12 * (64 * 26))) (12 * (12 * (64 * 1805)))
    (chain_size owns.count x.links x.chain (left_joints owns.count x y) owns.left rx hx left (λ p. left_few owns.count x y p hx hy) tx)
    (chain_size owns.count y.links y.chain (right_joints owns.count x y) owns.right ry hy right (λ q. right_few owns.count x y q hx hy) ty)

pub refused_size : (x y : SelectorParts) (names : Names) → length x.links ≤ 11 → length y.links ≤ 11 → ((i : ℕ) → length (names.bx i) ≤ 25) → ((i : ℕ) → length (names.ax i) ≤ 25) → ((j : ℕ) → length (names.by j) ≤ 25) → ((j : ℕ) → length (names.ay j) ≤ 25) →
    ((i : ℕ) → length (nth_compound x.chain i) ≤ 64) → ((j : ℕ) → length (nth_compound y.chain j) ≤ 64) → Sized (λ f. with_refused_hints x y names f) 958464 66539520
refused_size x y names hx hy bx ax by ay tx ty =
    more_size (λ f. with_refused_hints x y names f) (12 * (12 * (64 * 26)) + 12 * (12 * (64 * 26)) + (12 * (12 * (64 * 26)) + 12 * (12 * (64 * 26)))) (12 * (12 * (64 * 1805)) + 12 * (12 * (64 * 1805)) + (12 * (12 * (64 * 1805)) + 12 * (12 * (64 * 1805)))) 958464 66539520 (omega arith) (omega arith)
    (both_size (λ f. with_refused x y (record { count = Before; left = names.bx; right = names.by }) names.rx names.ry f) (λ f. with_refused x y (record { count = Behind; left = names.ax; right = names.ay }) names.rx names.ry f)
    (12 * (12 * (64 * 26)) + 12 * (12 * (64 * 26))) (12 * (12 * (64 * 1805)) + 12 * (12 * (64 * 1805))) (12 * (12 * (64 * 26)) + 12 * (12 * (64 * 26))) (12 * (12 * (64 * 1805)) + 12 * (12 * (64 * 1805)))
    (kind_size x y (record { count = Before; left = names.bx; right = names.by }) names.rx names.ry hx hy bx by tx ty)
    (kind_size x y (record { count = Behind; left = names.ax; right = names.ay }) names.rx names.ry hx hy ax ay tx ty))
