use Rattle.std.proofs.Common.{◌-◌, ◌≤◌}
use Rattle.spare_list.specs.Moved.{IsMoved}
use Rattle.spare_list.proofs.moving.raise.Given as goal

abbrev pub invariant-loop-at : goal.invariant-loop-at
invariant-loop-at g l = record { stays : l.at ≤ l.to; moved : IsMoved l.initial.slots.items l.slots.items l.from l.at }

abbrev pub decreases-loop-at : goal.decreases-loop-at
decreases-loop-at g l = l.to - l.at
