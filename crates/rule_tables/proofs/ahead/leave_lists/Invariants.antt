use Rattle.std.proofs.Common.{◌≤◌, map}
use Rattle.rule_tables.proofs.ahead.leave_lists.Given as goal
use Rattle.rule_tables.specs.Ahead.{AreWithin, LeavesOut, count_left, reached}

abbrev pub invariant-lists : goal.invariant-lists
invariant-lists l = record {
  leaves : LeavesOut (map reached l.fn.lists.items) l.fn.left (map reached l.lists.items) l.now;
  within : AreWithin l.fn.left l.most → AreWithin l.now l.most;
  no_more : count_left (map reached l.lists.items) ≤ count_left (map reached l.fn.lists.items);
}

abbrev pub decreases-lists : goal.decreases-lists
decreases-lists l = count_left (map reached l.lists.items)
