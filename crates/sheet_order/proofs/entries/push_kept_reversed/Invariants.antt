use Rattle.std.proofs.Common.{◌≡◌, ◌++◌, length, map, ◌+◌}
use Rattle.std.specs.List.{filter}
use Rattle.order_laws.specs.Reversed as order
use Rattle.sheet_order.proofs.entries.push_kept_reversed.Given as goal

-- what was put, and what is left to put
abbrev pub invariant-rest : goal.invariant-rest
invariant-rest l = record {
  entries : l.found.items ++ map (order.with_kept l.p) (filter (order.is_reversed_kept l.old.items.now l.new.items.now l.p.pair) (order.kept_from l.number l.rest))
      ≡ l.fn.found.items ++ map (order.with_kept l.p) (filter (order.is_reversed_kept l.old.items.now l.new.items.now l.p.pair) (order.kept_from 0 l.old.items.now));
  number : l.number + length l.rest ≡ length l.old.items.now;
}

abbrev pub decreases-rest : goal.decreases-rest
decreases-rest l = length l.rest
