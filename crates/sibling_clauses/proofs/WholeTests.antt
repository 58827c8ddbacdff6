-- The tests of positions of whole selectors.
use Rattle.std.proofs.Common.{ap, arith, length, suc, sym, ℕ, ◌+◌, ◌∙◌, ◌≡◌, ◌≤◌}
use Rattle.std.specs.Prelude.{◌==◌}
use Rattle.cnf.specs.Cnf.{Cnf}
use Rattle.css_model.specs.Documents.SelectorParts.{SelectorParts}
use Rattle.formula_laws.specs.Counts.{Names, steps_below}
use Rattle.formula_laws.specs.Positions.{with_positions}
use Rattle.grid_laws.specs.Solved.{nth_compound}
use Rattle.formula_laws.specs.Formula.{names_of, with_tests}
use Rattle.sibling_clauses.proofs.Growing.{positions_grow, steps_grow}
use Rattle.sibling_clauses.specs.Bounds.{IsWhole}
use Rattle.sibling_clauses.specs.Rows.{left_tests, right_tests}
use Rattle.sibling_clauses.specs.declared.numbering.Numbering.{Numbering}

-- their tests
pub tests_whole : (x y : SelectorParts) (g : Numbering) (f : Cnf) → IsWhole x g.left → IsWhole y g.right →
    steps_below (g.right + 1) (right_tests g y.chain) (steps_below (g.left + 1) (left_tests g x.chain) f) ≡ with_tests x y (names_of g.left g.right g.digits) f
tests_whole x y g f hx hy =
    let names = names_of g.left g.right g.digits in
    let lx = hx.links in
    let ly = hy.links in
    let em : g.left + 1 ≡ suc (length x.links) = omega arith in
    let en : g.right + 1 ≡ suc (length y.links) = omega arith in
    let left : (a b : ℕ) → Cnf = λ a b. steps_below a (λ i. with_positions (i == b) names.rx names.child (names.bx i) (names.ax i) (nth_compound x.chain i)) f in
    let right : (a b : ℕ) → Cnf = λ a b. steps_below a (λ j. with_positions (j == b) names.ry names.child (names.by j) (names.ay j) (nth_compound y.chain j)) (left (suc (length x.links)) (length x.links)) in
    ap (steps_below (g.right + 1) (right_tests g y.chain)) (ap (λ (a : ℕ). left a g.left) em ∙ ap (λ (b : ℕ). left (suc (length x.links)) b) (sym lx))
    ∙ ap (λ (a : ℕ). right a g.right) en ∙ ap (λ (b : ℕ). right (suc (length y.links)) b) (sym ly)

pub left_part_room : (x y : SelectorParts) (g : Numbering) (most : ℕ) (f : Cnf) → IsWhole x g.left → IsWhole y g.right → (with_tests x y (names_of g.left g.right g.digits) f).vars ≤ most → (steps_below (g.left + 1) (left_tests g x.chain) f).vars ≤ most
left_part_room x y g most f hx hy room =
    let all = ap (λ h. h.vars) (tests_whole x y g f hx hy) in
    let more = steps_grow (g.right + 1) (right_tests g y.chain) (λ j f. positions_grow _ _ _ _ _ (nth_compound y.chain j) f) (steps_below (g.left + 1) (left_tests g x.chain) f) in
    omega arith

pub left_part_stays : (g : Numbering) (x : SelectorParts) (f : Cnf) → f.vars ≤ (steps_below (g.left + 1) (left_tests g x.chain) f).vars
left_part_stays g x f = steps_grow (g.left + 1) (left_tests g x.chain) (λ i f. positions_grow _ _ _ _ _ (nth_compound x.chain i) f) f

pub tests_grow : (x y : SelectorParts) (names : Names) (f : Cnf) → f.vars ≤ (with_tests x y names f).vars
tests_grow x y names f =
    let left = steps_grow (suc (length x.links)) (λ i. with_positions (i == length x.links) names.rx names.child (names.bx i) (names.ax i) (nth_compound x.chain i)) (λ i f. positions_grow _ _ _ _ _ (nth_compound x.chain i) f) f in
    let right = steps_grow (suc (length y.links)) (λ j. with_positions (j == length y.links) names.ry names.child (names.by j) (names.ay j) (nth_compound y.chain j)) (λ j f. positions_grow _ _ _ _ _ (nth_compound y.chain j) f)
    (steps_below (suc (length x.links)) (λ i. with_positions (i == length x.links) names.rx names.child (names.bx i) (names.ax i) (nth_compound x.chain i)) f) in
    omega arith
