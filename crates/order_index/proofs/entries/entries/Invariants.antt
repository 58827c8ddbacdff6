use Rattle.std.proofs.Common.{◌≡◌, take}
use Rattle.std.specs.List.{flat_map}
use Rattle.order_index.proofs.entries.entries.Given as goal
use Rattle.order_index.specs.Afterwards.{after}
use Rattle.order_laws.specs.Reversed as order

-- the entries of the first ones
abbrev pub invariant-loop-p : goal.invariant-loop-p
invariant-loop-p l = l.found.items ≡ flat_map (order.reversed_with l.change.window.items.now (after l.change.window.items.now l.change.step)) (take l.p-index l.moved)
