use Rattle.std.proofs.Common.{◌≡◌, ◌++◌, drop}
use Rattle.cnf.specs.Sums.{columns}
use Rattle.cnf.proofs.sums.columns_of.Given as goal

abbrev pub invariant-loop-k : goal.invariant-loop-k
invariant-loop-k l = l.columns.items ++ columns (drop l.k l.x) (drop l.k l.y) ≡ columns l.x l.y
