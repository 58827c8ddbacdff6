use Rattle.std.proofs.Common.{◌≡◌, drop}
use Rattle.cnf.specs.Gates.{with_clauses, with_exactly_one, not_both}
use Rattle.cnf.proofs.gates.exactly_one.Given as goal

abbrev pub invariant-loop-k : goal.invariant-loop-k
invariant-loop-k l = with_clauses l.f (not_both (drop l.k l.lits)) ≡ with_exactly_one l.fn.f l.lits
