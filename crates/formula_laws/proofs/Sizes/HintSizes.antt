-- The sizes of hints on numbers that rise, and on what they leave.
use Rattle.std.proofs.Common.{List, Option, [], arith, length, suc, ℕ, ◌*◌, ◌++◌, ◌+◌, ◌-◌, ◌/◌, ◌∷◌, ◌≤◌}
use Rattle.std.proofs.lemmas.List.{length-append}
use Rattle.std.specs.Prelude.{None, Some, ◌&&◌, ◌==◌, ◌||◌}
use Rattle.cnf.proofs.ForCallers.{division-size, length-remainder}
use Rattle.cnf.specs.Gates.{with_clauses}
use Rattle.cnf.specs.Numbers.{remainder_digits, with_division}
use Rattle.cnf.specs.declared.lit.Lit.{Lit}
use Rattle.css_model.specs.Documents.SelectorParts.{SelectorParts}
use Rattle.css_model.specs.declared.selector.Combinator.{Combinator}
use Rattle.formula_laws.proofs.Sizes.Sizes.{Sized, both_size, implied_size, less_size, more_size, most_each, most_size, only_size, when_size}
use Rattle.formula_laws.proofs.Sizes.TestSizes.{digits_at_most, product_at_most}
use Rattle.formula_laws.specs.Asked.{are_joined, run_rests, starts_run}
use Rattle.formula_laws.specs.Counts.{Names, implied, steps_below}
use Rattle.formula_laws.specs.Hints.{Owns, cell_rests, is_later_at, rest_clauses, rest_digits, shared_rests, with_asked_hints, with_remainders, with_rests, with_rise, with_rises, with_run_rests, with_shared}
use Rattle.formula_laws.specs.Path.{both_fit, each_below, node_lit}
use Rattle.formula_laws.specs.declared.count.Count.TheVariants.{Before, Behind}
use Rattle.grid_laws.specs.Grid.{together}
use Rattle.remainders.specs.Remainders.{joint_rest, joint_step}
use Rattle.remainders.specs.declared.remainder.Remainder.{Remainder}

rises_size : (links : List Combinator) (a : ℕ → List Lit) → length links ≤ 11 → ((i : ℕ) → length (a i) ≤ 25) → Sized (λ f. with_rises links a f) (11 * 78) (11 * 581)
rises_size links a few ha = most_size 11 (length links) (with_rise links a) 78 581 few (λ k less. when_size (is_later_at links k) _ 78 581 (less_size 25 [] (a k) (a (suc k)) (ha k) (ha (suc k))))

pub digits_few : (ls : List Lit) (c : ℕ) → length (rest_digits ls c) ≤ length ls
digits_few [] c = omega arith
digits_few (l ∷ ls) c = let h = digits_few ls (c / 2) in omega arith

rest_few : (ls : List Lit) (rest : Option ℕ) → length (rest_clauses ls rest) ≤ length ls + 1
rest_few ls None = omega arith
rest_few ls (Some c) = let h = digits_few ls c in omega arith

-- a division, with clauses on its remainder
divided_size : (step most : ℕ) (n : List Lit) (cs : List Lit → List (List Lit)) → length n ≤ 25 → ((remainder : List Lit) → length remainder ≤ 32 → length (cs remainder) ≤ most) →
    Sized (λ f. let d = with_division f n step in with_clauses d.formula (cs d.remainder)) 2450 (18500 + most)
divided_size step most n cs h few f =
    let d = with_division f n step in
    let s = division-size f n step in
    let r = digits_at_most step in
    let pv = product_at_most (3 * remainder_digits step + 2) (length n) 98 25 (omega arith) h in
    let pc = product_at_most (23 * remainder_digits step + 4) (length n) 740 25 (omega arith) h in
    let l = length-remainder f n step in
    let c = few d.remainder (omega arith) in
    let e = length-append d.formula.clauses (cs d.remainder) in
    record { vars_bound = let x = s.vars_bound in omega arith; clauses_bound = let x = s.clauses_bound in omega arith }

rests_size : (rs : List Remainder) (n : List Lit) → length n ≤ 25 → Sized (λ f. with_rests rs n f) 2450 18533
rests_size rs n h = when_size _ _ 2450 18533 (divided_size (joint_step rs) 33 n (λ remainder. rest_clauses remainder (joint_rest rs)) h (λ remainder l. let c = rest_few remainder (joint_rest rs) in omega arith))

shared_size : (x y : SelectorParts) (owns : Owns) (p q : ℕ) → length x.links ≤ 11 → length y.links ≤ 11 → length (owns.left p) ≤ 25 → Sized (λ f. with_shared x y owns p q f) 2450 23252
shared_size x y owns p q hx hy h = when_size _ _ 2450 23252 (divided_size (joint_step (run_rests owns.count x.links x.chain p ++ run_rests owns.count y.links y.chain q)) 4752 (owns.left p)
    (λ remainder. each_below (suc (length x.links)) (λ i. each_below (suc (length y.links)) (λ j. cell_rests owns.count x y p q remainder i j))) h
    (λ remainder l. most_each 12 (suc (length x.links)) _ (12 * 33) (omega arith) (λ i. most_each 12 (suc (length y.links)) _ 33 (omega arith) (λ j.
    let c = cell remainder i j in omega arith))))
  where
    clauses_at : List Lit → ℕ → ℕ → List (List Lit)
    clauses_at remainder i j = rest_clauses remainder (joint_rest (shared_rests owns.count (run_rests owns.count x.links x.chain p) (run_rests owns.count y.links y.chain q) (i - p) (j - q)))

    cell : (remainder : List Lit) (i j : ℕ) → length (cell_rests owns.count x y p q remainder i j) ≤ length remainder + 1
    cell remainder i j =
        let o = only_size (are_joined x.links p i && (are_joined y.links q j && (((i == p) || (j == q)) && both_fit x.links y.links i j))) (implied (node_lit (suc (length y.links)) together i j) (clauses_at remainder i j)) in
        let m = implied_size (node_lit (suc (length y.links)) together i j) (clauses_at remainder i j) in
        let r = rest_few remainder (joint_rest (shared_rests owns.count (run_rests owns.count x.links x.chain p) (run_rests owns.count y.links y.chain q) (i - p) (j - q))) in omega arith

remainders_size : (x y : SelectorParts) (owns : Owns) → length x.links ≤ 11 → length y.links ≤ 11 → ((p : ℕ) → length (owns.left p) ≤ 25) → ((q : ℕ) → length (owns.right q) ≤ 25) →
    Sized (λ f. with_remainders x y owns f) (12 * 2450 + 12 * 2450 + 12 * (12 * 2450)) (12 * 18533 + 12 * 18533 + 12 * (12 * 23252))
remainders_size x y owns hx hy left right =
    both_size _ _ _ _ _ _ (both_size _ _ _ _ _ _
    (most_size 12 (suc (length x.links)) (with_run_rests owns.count x.links x.chain owns.left) 2450 18533 (omega arith) (λ p hp. when_size (starts_run x.links p) _ 2450 18533 (rests_size (run_rests owns.count x.links x.chain p) (owns.left p) (left p))))
    (most_size 12 (suc (length y.links)) (with_run_rests owns.count y.links y.chain owns.right) 2450 18533 (omega arith) (λ q hq. when_size (starts_run y.links q) _ 2450 18533 (rests_size (run_rests owns.count y.links y.chain q) (owns.right q) (right q)))))
    (most_size 12 (suc (length x.links)) (λ p f. steps_below (suc (length y.links)) (with_shared x y owns p) f) (12 * 2450) (12 * 23252) (omega arith) (λ p hp.
    most_size 12 (suc (length y.links)) (with_shared x y owns p) 2450 23252 (omega arith) (λ q hq. shared_size x y owns p q hx hy (left p))))

pub asked_size : (x y : SelectorParts) (names : Names) → length x.links ≤ 11 → length y.links ≤ 11 → ((i : ℕ) → length (names.bx i) ≤ 25) → ((i : ℕ) → length (names.ax i) ≤ 25) → ((j : ℕ) → length (names.by j) ≤ 25) → ((j : ℕ) → length (names.ay j) ≤ 25) →
    Sized (λ f. with_asked_hints x y names f) 824916 7598942
asked_size x y names hx hy bx ax by ay =
    more_size (λ f. with_asked_hints x y names f) (11 * 78 + 11 * 78 + (12 * 2450 + 12 * 2450 + 12 * (12 * 2450)) + (12 * 2450 + 12 * 2450 + 12 * (12 * 2450)))
    (11 * 581 + 11 * 581 + (12 * 18533 + 12 * 18533 + 12 * (12 * 23252)) + (12 * 18533 + 12 * 18533 + 12 * (12 * 23252))) 824916 7598942 (omega arith) (omega arith)
    (both_size _ _ _ _ _ _ (both_size _ _ _ _ _ _ (both_size _ _ _ _ _ _ (rises_size x.links names.ax hx ax) (rises_size y.links names.ay hy ay))
    (remainders_size x y (record { count = Before; left = names.bx; right = names.by }) hx hy bx by))
    (remainders_size x y (record { count = Behind; left = names.ax; right = names.ay }) hx hy ax ay))
