use Rattle.cnf.proofs.DivisionCode.{DividedSoFar}
use Rattle.cnf.proofs.division.divide.Given as goal

abbrev pub invariant-loop-k : goal.invariant-loop-k
invariant-loop-k l = DividedSoFar l.fn.f l.x l.by l.f l.quotient.items l.remainder.items l.k
