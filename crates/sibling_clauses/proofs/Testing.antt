-- What the tests of all compounds add.
use Rattle.std.proofs.Common.{List, [], arith, get_or, length, suc, zero, ℕ, ◌<◌, ◌∷◌, ◌≡◌, ◌≤◌}
use Rattle.std.specs.List.{AllByRecursion}
use Rattle.sibling_clauses.proofs.Counting.{step_room, steps_more, steps_stay}
use Rattle.sibling_clauses.proofs.Growing.{Grows, positions_grow}
use Rattle.sibling_clauses.specs.Rows.{left_tests, right_tests}
use Rattle.sibling_clauses.specs.declared.numbering.Numbering.{Numbering}
use Rattle.cnf.specs.Cnf.{Cnf}
use Rattle.css_model.specs.declared.selector.Simple.{Simple}
use Rattle.formula_laws.specs.Counts.{steps_below}
use Rattle.grid_laws.specs.Solved.{nth_compound}
use Rattle.selector_laws.specs.Limits.{KeepsCompound, KeepsTest}

left_grows : (g : Numbering) (chain : List (List Simple)) (i : ℕ) → Grows (left_tests g chain i)
left_grows g chain i f = positions_grow _ _ _ _ _ (nth_compound chain i) f

right_grows : (g : Numbering) (chain : List (List Simple)) (j : ℕ) → Grows (right_tests g chain j)
right_grows g chain j f = positions_grow _ _ _ _ _ (nth_compound chain j) f

pub left_tests_room : (g : Numbering) (chain : List (List Simple)) (k n most : ℕ) (f h : Cnf) → k < n → h ≡ steps_below k (left_tests g chain) f → (steps_below n (left_tests g chain) f).vars ≤ most → (left_tests g chain k h).vars ≤ most
left_tests_room g chain k n most f h = step_room k n most (left_tests g chain) f h (left_grows g chain)

pub left_tests_stay : (g : Numbering) (chain : List (List Simple)) (k : ℕ) (f h : Cnf) → h ≡ steps_below k (left_tests g chain) f → f.vars ≤ h.vars
left_tests_stay g chain k f h = steps_stay k (left_tests g chain) f h (left_grows g chain)

pub right_tests_room : (g : Numbering) (chain : List (List Simple)) (k n most : ℕ) (f h : Cnf) → k < n → h ≡ steps_below k (right_tests g chain) f → (steps_below n (right_tests g chain) f).vars ≤ most → (right_tests g chain k h).vars ≤ most
right_tests_room g chain k n most f h = step_room k n most (right_tests g chain) f h (right_grows g chain)

pub right_tests_stay : (g : Numbering) (chain : List (List Simple)) (k : ℕ) (f h : Cnf) → h ≡ steps_below k (right_tests g chain) f → f.vars ≤ h.vars
right_tests_stay g chain k f h = steps_stay k (right_tests g chain) f h (right_grows g chain)

-- what each compound keeps to
pub compound_keeps : (chain : List (List Simple)) (i : ℕ) (d : List Simple) → AllByRecursion KeepsCompound chain → i < length chain → AllByRecursion (λ s. KeepsTest s.test) (get_or chain i d)
compound_keeps [] i d all less = absurd (omega arith)
compound_keeps (c ∷ cs) zero d all less = (all.0).tests
compound_keeps (c ∷ cs) (suc i) d all less = compound_keeps cs i d all.1 (omega arith)

pub ruleset left_tests_added = (steps_more, left_tests_room, left_tests_stay, compound_keeps)

pub ruleset right_tests_added = (steps_more, right_tests_room, right_tests_stay, compound_keeps)
