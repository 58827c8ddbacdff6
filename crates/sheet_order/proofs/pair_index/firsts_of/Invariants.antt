use Rattle.std.proofs.Common.{◌≡◌, [], take}
use Rattle.sheet_order.specs.Keys.{inserted}
use Rattle.sheet_order.proofs.pair_index.firsts_of.Given as goal

-- those of the first pairs
abbrev pub invariant-loop-pair : goal.invariant-loop-pair
invariant-loop-pair l = l.firsts.keys ≡ inserted [] (take l.pair-index l.pairs)
