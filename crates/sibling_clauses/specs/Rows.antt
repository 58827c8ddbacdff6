-- The numbers of siblings of the compounds of a chain, by the number before its first compound.
use Rattle.std.specs.Prelude.{ℕ, ◌*◌, ◌+◌, ◌==◌, List}
use Rattle.sibling_clauses.specs.declared.numbering.Numbering.{Numbering}
use Rattle.cnf.specs.Cnf.{Cnf}
use Rattle.cnf.specs.declared.lit.Lit.{Lit}
use Rattle.formula_laws.specs.Formula.{names_of, slot_at}
use Rattle.css_model.specs.declared.selector.Simple.{Simple}
use Rattle.formula_laws.specs.Positions.{with_positions}
use Rattle.grid_laws.specs.Solved.{nth_compound}
use Rattle.formula_laws.specs.Relations.{literals}

-- the digits of the q-th number
abbrev pub number_at : Numbering → ℕ → List Lit
number_at g q = literals (slot_at g.left g.right g.digits q) g.digits

-- how many siblings stand before the i-th compound
abbrev pub before_at : Numbering → ℕ → ℕ → List Lit
before_at g first i = number_at g (first + 2 * i)

-- and how many behind it
abbrev pub after_at : Numbering → ℕ → ℕ → List Lit
after_at g first i = number_at g (first + 2 * i + 1)

-- the tests of the i-th left compound
abbrev pub left_tests : Numbering → List (List Simple) → ℕ → Cnf → Cnf
left_tests g chain i =
    let names = names_of g.left g.right g.digits in
    with_positions (i == g.left) names.rx names.child (names.bx i) (names.ax i) (nth_compound chain i)

-- and of the j-th right one
abbrev pub right_tests : Numbering → List (List Simple) → ℕ → Cnf → Cnf
right_tests g chain j =
    let names = names_of g.left g.right g.digits in
    with_positions (j == g.right) names.ry names.child (names.by j) (names.ay j) (nth_compound chain j)
