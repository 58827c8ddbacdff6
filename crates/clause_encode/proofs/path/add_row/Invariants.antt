use Rattle.std.proofs.Common.{◌≡◌}
use Rattle.cnf.specs.Gates.{with_clauses}
use Rattle.formula_laws.specs.Path.{each_below, next_clauses}
use Rattle.clause_encode.proofs.path.add_row.Given as goal

abbrev pub invariant-loop-j : goal.invariant-loop-j
invariant-loop-j l = l.f ≡ with_clauses l.fn.f (each_below l.j (λ j. next_clauses l.g.left l.g.right l.i j))
