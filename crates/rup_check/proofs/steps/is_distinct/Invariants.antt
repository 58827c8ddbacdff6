use Rattle.std.proofs.Common.{◌≡◌, drop}
use Rattle.cnf.specs.Propagation.{is_distinct}
use Rattle.rup_check.proofs.steps.is_distinct.Given as goal

abbrev pub invariant-loop-k : goal.invariant-loop-k
invariant-loop-k l = is_distinct l.lits ≡ is_distinct (drop l.k l.lits)
