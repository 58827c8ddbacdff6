-- What values of the variables say of the nodes and numbers of a pair.
use Rattle.std.specs.Prelude.{Bool, List, if◌then◌else◌, suc, ℕ, ◌+◌}
use Rattle.cnf.specs.Sums.{number}
use Rattle.cnf.specs.Values.{value}
use Rattle.css_model.specs.declared.selector.Combinator.{Combinator}
use Rattle.formula_laws.specs.Formula.{names_of}
use Rattle.formula_laws.specs.Path.{true_nodes}
use Rattle.grid_laws.specs.Slots.{Laid, numbered, row_before, shape_of, slots_from}
use Rattle.sibling_clauses.specs.declared.numbering.Numbering.{Numbering}
use Rattle.slot_plan.specs.ShapeParts.{ShapeParts}

-- how many siblings stand before the i-th left compound
abbrev pub before_left : Numbering → List Bool → ℕ → ℕ
before_left g values i = number values ((names_of g.left g.right g.digits).bx i)

-- and how many behind it
abbrev pub after_left : Numbering → List Bool → ℕ → ℕ
after_left g values i = number values ((names_of g.left g.right g.digits).ax i)

-- how many stand before the j-th right compound
abbrev pub before_right : Numbering → List Bool → ℕ → ℕ
before_right g values j = number values ((names_of g.left g.right g.digits).by j)

-- and how many behind it
abbrev pub after_right : Numbering → List Bool → ℕ → ℕ
after_right g values j = number values ((names_of g.left g.right g.digits).ay j)

-- at most so many slots along the true nodes behind that of the compounds i and j, before whose slot so many siblings stand
abbrev pub slots_read : Numbering → List Bool → List Combinator → List Combinator → ℕ → ℕ → ℕ → ℕ → List Laid
slots_read g values left right most i j before =
    slots_from most left right (true_nodes (suc g.right) values) (before_left g values) (after_left g values) (before_right g values) (after_right g values) i j before

-- The shape of two selectors with these combinators: with the numbers that the values say where some test looks at them,
-- and else with all siblings direct neighbours.
abbrev pub shape_read : Numbering → List Bool → List Combinator → List Combinator → Bool → ShapeParts
shape_read g values left right asked =
    let slots = slots_read g values left right (g.left + g.right) 0 0 (before_left g values 0) in
    let names = names_of g.left g.right g.digits in
    if asked then shape_of (before_left g values 0) (after_left g values 0) (value values names.root) (value values names.child) slots
    else shape_of (row_before slots) 0 (value values names.root) (value values names.child) (numbered 0 slots)
