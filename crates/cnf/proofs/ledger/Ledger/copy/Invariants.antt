use Rattle.std.proofs.Common.{◌≡◌, take}
use Rattle.cnf.proofs.ledger.Ledger.copy.Given as goal

abbrev pub invariant-loop-clause : goal.invariant-loop-clause
invariant-loop-clause l = l.clauses.items ≡ take l.clause-index l.clause-items
