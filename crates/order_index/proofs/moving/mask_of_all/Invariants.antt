use Rattle.std.proofs.Common.{◌≡◌, take}
use Rattle.order_index.proofs.moving.mask_of_all.Given as goal
use Rattle.order_index.specs.Walked.{with_masks}

-- the masks of the first ones
abbrev pub invariant-loop-p : goal.invariant-loop-p
invariant-loop-p l = l.mask ≡ with_masks 0 (take l.p-index l.pairs)
