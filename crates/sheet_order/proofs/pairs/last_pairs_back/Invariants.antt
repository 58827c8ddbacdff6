use Rattle.std.proofs.Common.{length, reverse}
use Rattle.sheet_order.proofs.LastItems.{EndsSo}
use Rattle.sheet_order.specs.Counting.{counted}
use Rattle.sheet_order.proofs.pairs.last_pairs_back.Given as goal

-- the pairs of the items behind
abbrev pub invariant-rest : goal.invariant-rest
invariant-rest l = EndsSo (counted l.counts) l.items l.rest (reverse l.found.keys)

abbrev pub decreases-rest : goal.decreases-rest
decreases-rest l = length l.rest
