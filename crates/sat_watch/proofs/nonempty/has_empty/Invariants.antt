use Rattle.std.proofs.Common.{take, IsTrue}
use Rattle.sat_watch.specs.Nonempty.{are_nonempty}
use Rattle.sat_watch.proofs.nonempty.has_empty.Given as goal

abbrev pub invariant-loop-k : goal.invariant-loop-k
invariant-loop-k l = IsTrue (are_nonempty (take l.k l.f.clauses))
