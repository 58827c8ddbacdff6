use Rattle.std.proofs.Common.{◌≡◌, take}
use Rattle.order_index.proofs.marked.all_marked.Given as goal

-- the first ones are there
abbrev pub invariant-loop-p : goal.invariant-loop-p
invariant-loop-p l = l.list.items ≡ take l.p-index l.pairs
