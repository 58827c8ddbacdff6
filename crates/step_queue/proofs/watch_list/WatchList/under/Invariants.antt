use Rattle.std.proofs.Common.{◌≡◌, ◌++◌, length}
use Rattle.step_queue.specs.WatchLists.{candidates_under}
use Rattle.step_queue.proofs.watch_list.WatchList.under.Given as goal

-- what is still to be looked at is missing
abbrev pub invariant-rest : goal.invariant-rest
invariant-rest l = l.found.items ++ candidates_under l.selector l.decl l.rest ≡ candidates_under l.selector l.decl l.initial.rest

abbrev pub decreases-rest : goal.decreases-rest
decreases-rest l = length l.rest
