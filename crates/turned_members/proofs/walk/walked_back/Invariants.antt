use Rattle.std.proofs.Common.{◌≤◌, length}
use Rattle.turned_members.proofs.Floors.{AreBehind}
use Rattle.turned_members.proofs.walk.walked_back.Given as goal

-- the last members with their floors, and those before them
abbrev pub invariant-left : goal.invariant-left
invariant-left l = record {
  within : l.left ≤ length l.commons;
  behind : AreBehind l.commons l.left l.floor l.found.items;
}

abbrev pub decreases-left : goal.decreases-left
decreases-left l = l.left
