use Rattle.std.proofs.Common.{◌++◌, ◌-◌, ◌≡◌}
use Rattle.std.specs.Prelude.{if◌then◌else◌}
use Rattle.formula_laws.specs.Path.{each_below}
use Rattle.formula_laws.specs.Refused.{cell_joint}
use Rattle.hint_clauses.proofs.joints.push_cell_row.Given as goal

abbrev pub invariant-loop-j : goal.invariant-loop-j
invariant-loop-j l = l.joints.items ≡ l.fn.joints.items ++ each_below l.j
    (λ j. cell_joint l.runs.count l.left l.right l.runs.left l.runs.right (if l.of_right then j - l.runs.right else 0) (if l.of_right then l.i - l.runs.left else 0) l.i j)
