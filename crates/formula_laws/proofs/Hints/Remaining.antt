-- All hints on one kind of numbers.
use Rattle.std.proofs.Common.{Bool, IsTrue, List, arith, length, suc, true, ℕ, ◌*◌, ◌≡◌, ◌≤◌}
use Rattle.std.specs.Prelude.{◌==◌}
use Rattle.cnf.specs.Lits.{are_below}
use Rattle.cnf.specs.Sums.{number}
use Rattle.cnf.specs.Values.{value}
use Rattle.css_model.specs.Documents.SelectorParts.{SelectorParts}
use Rattle.formula_laws.proofs.Hints.Hint.{Hint, IsStable, below_hint, both_hints, when_hint}
use Rattle.formula_laws.proofs.Hints.Rests.{rests_hint}
use Rattle.formula_laws.proofs.Hints.Runs.{joined_numbers, run_leaves, run_steps}
use Rattle.formula_laws.proofs.Hints.Shared.{OwnsSay, shared_hint}
use Rattle.formula_laws.proofs.Numbers.Counted.{run_means}
use Rattle.formula_laws.proofs.Whole.Conditions.{Says}
use Rattle.formula_laws.specs.Allowed.{Allowed}
use Rattle.formula_laws.specs.Asked.{run_rests, starts_run}
use Rattle.formula_laws.specs.Counts.{Names, steps_below}
use Rattle.formula_laws.specs.Hints.{Owns, with_remainders, with_rests, with_run_rests, with_shared}
use Rattle.formula_laws.specs.declared.count.Count.TheVariants.{Before, Behind}
use Rattle.grid_laws.specs.Numbers.{RunFits}
use Rattle.grid_laws.specs.Solved.{numbers_asked}

pub remainders_hint : (base : ℕ) (x y : SelectorParts) (owns : Owns) (P : List Bool → Type 0) → IsStable base P → 3 * (suc (length x.links) * suc (length y.links)) ≤ base →
    ((p : ℕ) → p ≤ length x.links → IsTrue (are_below base (owns.left p))) → ((q : ℕ) → q ≤ length y.links → IsTrue (are_below base (owns.right q))) →
    ((vs : List Bool) → P vs → OwnsSay x y owns vs) → Hint base (λ f. with_remainders x y owns f) P
remainders_hint base x y owns P stable nodes left right says =
    both_hints base (λ f. steps_below (suc (length y.links)) (with_run_rests owns.count y.links y.chain owns.right) (steps_below (suc (length x.links)) (with_run_rests owns.count x.links x.chain owns.left) f))
    (λ f. steps_below (suc (length x.links)) (λ p. steps_below (suc (length y.links)) (with_shared x y owns p)) f) P stable
    (both_hints base (λ f. steps_below (suc (length x.links)) (with_run_rests owns.count x.links x.chain owns.left) f) (λ f. steps_below (suc (length y.links)) (with_run_rests owns.count y.links y.chain owns.right) f) P stable
    (below_hint base (suc (length x.links)) (with_run_rests owns.count x.links x.chain owns.left) P stable (λ p hp.
    when_hint base (starts_run x.links p) (with_rests (run_rests owns.count x.links x.chain p) (owns.left p)) P (λ _.
    rests_hint base (run_rests owns.count x.links x.chain p) (owns.left p) P stable (left p (omega arith)) (run_steps owns.count x.links x.chain p) (λ vs s. (says vs s).left p))))
    (below_hint base (suc (length y.links)) (with_run_rests owns.count y.links y.chain owns.right) P stable (λ q hq.
    when_hint base (starts_run y.links q) (with_rests (run_rests owns.count y.links y.chain q) (owns.right q)) P (λ _.
    rests_hint base (run_rests owns.count y.links y.chain q) (owns.right q) P stable (right q (omega arith)) (run_steps owns.count y.links y.chain q) (λ vs s. (says vs s).right q)))))
    (below_hint base (suc (length x.links)) (λ p. steps_below (suc (length y.links)) (with_shared x y owns p)) P stable (λ p hp.
    below_hint base (suc (length y.links)) (with_shared x y owns p) P stable (λ q hq.
    shared_hint base x y owns p q P stable nodes (left p (omega arith)) says)))

-- the numbers of a chain fit along its combinators
pub left_fits : (x y : SelectorParts) (allowed : Allowed) (names : Names) (vs : List Bool) → numbers_asked x y ≡ true → Says x y allowed names vs → RunFits x.links (λ i. number vs (names.bx i)) (λ i. number vs (names.ax i))
left_fits x y allowed names vs asked s = run_means x.links names.bx names.ax names.one vs (s.numbers asked).0 (s.numbers asked).1.run_left

pub right_fits : (x y : SelectorParts) (allowed : Allowed) (names : Names) (vs : List Bool) → numbers_asked x y ≡ true → Says x y allowed names vs → RunFits y.links (λ j. number vs (names.by j)) (λ j. number vs (names.ay j))
right_fits x y allowed names vs asked s = run_means y.links names.by names.ay names.one vs (s.numbers asked).0 (s.numbers asked).1.run_right

pub befores_say : (x y : SelectorParts) (allowed : Allowed) (names : Names) (vs : List Bool) → numbers_asked x y ≡ true → Says x y allowed names vs → OwnsSay x y (record { count = Before; left = names.bx; right = names.by }) vs
befores_say x y allowed names vs asked s =
    let fx = left_fits x y allowed names vs asked s in
    let fy = right_fits x y allowed names vs asked s in
    record {
      left = run_leaves Before x.links x.chain (λ i. number vs (names.bx i)) (λ i. number vs (names.ax i)) (λ i. i == length x.links) (value vs names.rx) (value vs names.child) fx s.tests.0;
      right = run_leaves Before y.links y.chain (λ j. number vs (names.by j)) (λ j. number vs (names.ay j)) (λ j. j == length y.links) (value vs names.ry) (value vs names.child) fy s.tests.1;
      apart = λ p q i j hi hj jp jq both t.
          let e = ((s.numbers asked).1.equal i (omega arith) j (omega arith) both t).0 in
          let f = (joined_numbers x.links (λ i. number vs (names.bx i)) (λ i. number vs (names.ax i)) fx p i jp).fewer in
          let g = (joined_numbers y.links (λ j. number vs (names.by j)) (λ j. number vs (names.ay j)) fy q j jq).fewer in
          omega arith;
    }

pub behinds_say : (x y : SelectorParts) (allowed : Allowed) (names : Names) (vs : List Bool) → numbers_asked x y ≡ true → Says x y allowed names vs → OwnsSay x y (record { count = Behind; left = names.ax; right = names.ay }) vs
behinds_say x y allowed names vs asked s =
    let fx = left_fits x y allowed names vs asked s in
    let fy = right_fits x y allowed names vs asked s in
    record {
      left = run_leaves Behind x.links x.chain (λ i. number vs (names.bx i)) (λ i. number vs (names.ax i)) (λ i. i == length x.links) (value vs names.rx) (value vs names.child) fx s.tests.0;
      right = run_leaves Behind y.links y.chain (λ j. number vs (names.by j)) (λ j. number vs (names.ay j)) (λ j. j == length y.links) (value vs names.ry) (value vs names.child) fy s.tests.1;
      apart = λ p q i j hi hj jp jq both t.
          let e = ((s.numbers asked).1.equal i (omega arith) j (omega arith) both t).1 in
          let f = (joined_numbers x.links (λ i. number vs (names.bx i)) (λ i. number vs (names.ax i)) fx p i jp).more in
          let g = (joined_numbers y.links (λ j. number vs (names.by j)) (λ j. number vs (names.ay j)) fy q j jq).more in
          omega arith;
    }
