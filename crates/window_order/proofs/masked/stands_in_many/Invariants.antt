use Rattle.std.proofs.Common.{◌≡◌, length, map}
use Rattle.item_masks.specs.Masks.{item_mask}
use Rattle.window_order.proofs.masked.stands_in_many.Given as goal
use Rattle.window_order.specs.Standing.{stands}

-- those that are left tell whether the pair stands in all
abbrev pub invariant-rest : goal.invariant-rest
invariant-rest l = record {
  same : stands l.rest l.p ≡ stands l.initial.rest l.p;
  masks : l.of_rest ≡ map item_mask l.rest;
}

abbrev pub decreases-rest : goal.decreases-rest
decreases-rest l = length l.rest
