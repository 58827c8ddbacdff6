use Rattle.std.proofs.Common.{◌≡◌, ◌++◌, drop, length, map, take}
use Rattle.rule_tables.proofs.ahead.pass_each.Given as goal
use Rattle.rule_tables.specs.Ahead.{passed, reached}

-- it is taken out of the first ones
abbrev pub invariant-loop-number : goal.invariant-loop-number
invariant-loop-number l = record {
  count : length l.lists.items ≡ length l.fn.lists.items;
  so_far : map reached l.lists.items ≡ map (passed l.order_key) (take l.number (map reached l.fn.lists.items)) ++ drop l.number (map reached l.fn.lists.items);
}
