use Rattle.std.proofs.Common.{◌≡◌, take}
use Rattle.std.specs.List.{flat_map}
use Rattle.order_laws.specs.Reversed as order
use Rattle.sheet_order.proofs.entries.entries.Given as goal

-- the entries of the first ones
abbrev pub invariant-loop-p : goal.invariant-loop-p
invariant-loop-p l = l.found.items ≡ flat_map (order.reversed_with l.old.items.now l.new.items.now) (take l.p-index l.moved)
