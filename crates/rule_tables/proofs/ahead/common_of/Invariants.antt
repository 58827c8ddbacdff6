use Rattle.std.proofs.Common.{drop, map}
use Rattle.rule_tables.proofs.ahead.common_of.Given as goal
use Rattle.rule_tables.specs.Ahead.{AreAllOfFirst, reached}
use Rattle.rule_tables.specs.declared.ahead.Common.{Common}

-- with those of the lists from a number on they are those of all
abbrev pub invariant-loop-number : goal.invariant-loop-number
invariant-loop-number l = (final : Common) → AreAllOfFirst l.common (drop l.number (map reached l.lists.items)) l.order_key final →
    AreAllOfFirst (record { count = 0; weight = 0 }) (map reached l.lists.items) l.order_key final
