use Rattle.std.proofs.Common.{◌≡◌, take}
use Rattle.cnf.specs.Gates.{with_clauses}
use Rattle.cnf.proofs.sums.add_clauses.Given as goal

abbrev pub invariant-loop-clause : goal.invariant-loop-clause
invariant-loop-clause g l = l.f ≡ with_clauses l.initial.f (take l.clause-index l.clauses)
