use Rattle.sat_watch.proofs.ShortLemmas.{AreDone}
use Rattle.sat_watch.proofs.propagation.imply_short.Given as goal

abbrev pub invariant-loop-k : goal.invariant-loop-k
invariant-loop-k l = AreDone l.arena l.fn.trail l.trail l.k
