use Rattle.std.proofs.Common.{take}
use Rattle.std.specs.List.{AllZip}
use Rattle.merge_plan.proofs.blocked.blocked_of.Given as goal
use Rattle.merge_plan.specs.Blocked.{NamesBlocked}
use Rattle.sheet_order.specs.Allowing.{Stays}

-- the steps so far have their entries, and all that was answered stays
abbrev pub invariant-loop-step : goal.invariant-loop-step
invariant-loop-step l = record {
  stays : Stays l.fn.pairs l.pairs;
  are : AllZip (NamesBlocked l.pairs.answers l.index) (take l.step-index l.list) l.found.items;
}
