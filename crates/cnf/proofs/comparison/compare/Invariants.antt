use Rattle.std.proofs.Common.{drop}
use Rattle.cnf.proofs.ComparisonCode.{ComparedSoFar}
use Rattle.cnf.proofs.comparison.compare.Given as goal

abbrev pub invariant-loop-digit : goal.invariant-loop-digit
invariant-loop-digit l = ComparedSoFar l.fn.f l.digits l.fn.bound l.f l.below (drop l.digit-index l.digits) l.rest
