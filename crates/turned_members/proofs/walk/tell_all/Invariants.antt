use Rattle.std.proofs.Common.{length}
use Rattle.turned_members.specs.Turned.{turned}
use Rattle.turned_members.proofs.Way.{IsOnWay}
use Rattle.turned_members.proofs.walk.tell_all.Given as goal

-- what the couples to come tell, they tell after all of them
abbrev pub invariant-members : goal.invariant-members
invariant-members l = IsOnWay turned l.limit l.fn.pairs l.pairs l.fn.told.items l.told.items l.fn.members l.rest

abbrev pub decreases-members : goal.decreases-members
decreases-members l = length l.rest
