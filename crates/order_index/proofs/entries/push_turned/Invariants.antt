use Rattle.std.proofs.Common.{◌≡◌, ◌++◌, map, take}
use Rattle.std.specs.List.{filter}
use Rattle.order_index.proofs.entries.push_turned.Given as goal
use Rattle.order_index.specs.Afterwards.{after}
use Rattle.order_laws.specs.Reversed as order

-- the entries of the first ones stand behind the others
abbrev pub invariant-loop-q : goal.invariant-loop-q
invariant-loop-q l =
    l.found.items
    ≡ l.fn.found.items ++ map (order.with_pair l.p) (filter (λ x. order.is_reversed l.change.window.items.now (after l.change.window.items.now l.change.step) l.p.pair x.pair) (take l.q-index l.pairs))
