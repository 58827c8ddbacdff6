use Rattle.std.proofs.Common.{◌≡◌}
use Rattle.sibling_clauses.specs.Rows.{right_tests}
use Rattle.formula_laws.specs.Counts.{steps_below}
use Rattle.sibling_clauses.proofs.asked.add_right_tests.Given as goal

abbrev pub invariant-loop-j : goal.invariant-loop-j
invariant-loop-j l = l.f ≡ steps_below l.j (right_tests l.g l.chain) l.fn.f
