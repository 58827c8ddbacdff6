use Rattle.std.proofs.Common.{◌≡◌, length}
use Rattle.related_props.proofs.masks.mask_of_decls.Given as goal
use Rattle.related_props.specs.Masks.{with_decls}

abbrev pub invariant-rest : goal.invariant-rest
invariant-rest l = with_decls l.mask l.rest ≡ with_decls 0 l.initial.rest

abbrev pub decreases-rest : goal.decreases-rest
decreases-rest l = length l.rest
