use Rattle.std.proofs.Common.{◌≡◌, ◌+◌}
use Rattle.cnf.specs.Gates.{with_clauses}
use Rattle.formula_laws.specs.Path.{each_below, next_clauses}
use Rattle.clause_encode.proofs.path.add_rows.Given as goal

abbrev pub invariant-loop-i : goal.invariant-loop-i
invariant-loop-i l = l.f ≡ with_clauses l.fn.f (each_below l.i (λ i. each_below (l.g.right + 1) (λ j. next_clauses l.g.left l.g.right i j)))
