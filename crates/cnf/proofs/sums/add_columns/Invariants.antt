use Rattle.std.proofs.Common.{drop}
use Rattle.cnf.proofs.AdderCode.{SumsSoFar}
use Rattle.cnf.proofs.sums.add_columns.Given as goal

abbrev pub invariant-loop-column : goal.invariant-loop-column
invariant-loop-column l = SumsSoFar l.fn.f l.columns l.f l.sums.items l.carry (drop l.column-index l.columns)
