use Rattle.std.proofs.Common.{◌≡◌, take, map}
use Rattle.item_masks.proofs.masks.item_masks.Given as goal
use Rattle.item_masks.specs.Masks.{item_mask}

abbrev pub invariant-loop-item : goal.invariant-loop-item
invariant-loop-item l = l.list.items ≡ map item_mask (take l.item-index l.items)
