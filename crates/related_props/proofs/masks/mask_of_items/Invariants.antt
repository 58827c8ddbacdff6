use Rattle.std.proofs.Common.{◌≡◌, length}
use Rattle.related_props.proofs.masks.mask_of_items.Given as goal
use Rattle.related_props.specs.Masks.{with_items}

abbrev pub invariant-rest : goal.invariant-rest
invariant-rest l = with_items l.mask l.rest ≡ with_items 0 l.initial.rest

abbrev pub decreases-rest : goal.decreases-rest
decreases-rest l = length l.rest
