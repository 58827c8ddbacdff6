use Rattle.std.proofs.Common.{◌≡◌, map, take}
use Rattle.sheet_order.specs.Places.{entry_of}
use Rattle.sheet_order.proofs.reversing.narrow_all.Given as goal

-- the first ones, by their places
abbrev pub invariant-loop-entry : goal.invariant-loop-entry
invariant-loop-entry l = l.list.items ≡ map entry_of (take l.entry-index l.found)
