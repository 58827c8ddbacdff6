use Rattle.std.proofs.Common.{◌≡◌}
use Rattle.sibling_clauses.specs.Rows.{left_tests}
use Rattle.formula_laws.specs.Counts.{steps_below}
use Rattle.sibling_clauses.proofs.asked.add_left_tests.Given as goal

abbrev pub invariant-loop-i : goal.invariant-loop-i
invariant-loop-i l = l.f ≡ steps_below l.i (left_tests l.g l.chain) l.fn.f
