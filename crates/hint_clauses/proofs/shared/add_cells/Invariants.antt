use Rattle.std.proofs.Common.{◌+◌, ◌≡◌}
use Rattle.cnf.specs.Gates.{with_clauses}
use Rattle.formula_laws.specs.Hints.{cell_rests}
use Rattle.formula_laws.specs.Path.{each_below}
use Rattle.hint_clauses.proofs.shared.add_cells.Given as goal

abbrev pub invariant-loop-i : goal.invariant-loop-i
invariant-loop-i l = l.f ≡ with_clauses l.fn.f (each_below l.i (λ i. each_below (l.runs.numbering.right + 1) (λ j. cell_rests l.runs.count l.left l.right l.runs.left l.runs.right l.remainder i j)))
