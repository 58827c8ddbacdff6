use Rattle.std.proofs.Common.{◌≡◌, length}
use Rattle.item_masks.proofs.masks.mask_of_selectors.Given as goal
use Rattle.item_masks.specs.Masks.{with_selectors}

abbrev pub invariant-rest : goal.invariant-rest
invariant-rest l = with_selectors l.mask l.rest ≡ with_selectors 0 l.initial.rest

abbrev pub decreases-rest : goal.decreases-rest
decreases-rest l = length l.rest
