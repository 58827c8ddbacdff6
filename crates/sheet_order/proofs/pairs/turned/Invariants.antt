use Rattle.std.proofs.Common.{◌≡◌, ◌++◌, length, reverse}
use Rattle.sheet_order.proofs.pairs.turned.Given as goal

-- what was put, and what is left to put
abbrev pub invariant-left : goal.invariant-left
invariant-left l = l.list.items ++ reverse l.left.keys ≡ reverse l.fn.pairs.keys

abbrev pub decreases-left : goal.decreases-left
decreases-left l = length l.left.keys
