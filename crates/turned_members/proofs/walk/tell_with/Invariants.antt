use Rattle.std.proofs.Common.{length}
use Rattle.turned_members.specs.Turned.{turned_with}
use Rattle.turned_members.proofs.Way.{IsOnWay}
use Rattle.turned_members.proofs.walk.tell_with.Given as goal

-- what the couples to come tell, they tell after all of them
abbrev pub invariant-later : goal.invariant-later
invariant-later l = IsOnWay (turned_with l.w.common) l.limit l.fn.pairs l.pairs l.fn.told.items l.told.items l.fn.later l.rest

abbrev pub decreases-later : goal.decreases-later
decreases-later l = length l.rest
