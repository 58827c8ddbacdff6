use Rattle.std.proofs.Common.{◌≡◌, ◌++◌, map, take}
use Rattle.std.specs.List.{filter}
use Rattle.order_index.proofs.entries.push_kept_turned.Given as goal
use Rattle.order_index.specs.Afterwards.{after}
use Rattle.order_laws.specs.Reversed as order

-- the entries of the first ones stand behind the others
abbrev pub invariant-loop-k : goal.invariant-loop-k
invariant-loop-k l =
    l.found.items
    ≡ l.fn.found.items ++ map (order.with_kept l.p) (filter (order.is_reversed_kept l.change.window.items.now (after l.change.window.items.now l.change.step) l.p.pair) (take l.k-index l.kept))
