use Rattle.std.proofs.Common.{length}
use Rattle.window_order.proofs.LastFound.{AreAbove}
use Rattle.window_order.proofs.masked.last_of_few.Given as goal

-- the last ones do not have the pair
abbrev pub invariant-rest : goal.invariant-rest
invariant-rest l = AreAbove l.initial.rest l.rest l.p l.p

abbrev pub decreases-rest : goal.decreases-rest
decreases-rest l = length l.rest
