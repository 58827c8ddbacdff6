use Rattle.std.proofs.Common.{take, IsTrue}
use Rattle.cnf.specs.Lits.{are_below}
use Rattle.bench_counts.proofs.numbers.is_in_range.Given as goal

abbrev pub invariant-loop-lit : goal.invariant-loop-lit
invariant-loop-lit l = IsTrue (are_below l.vars (take l.lit-index l.clause))
