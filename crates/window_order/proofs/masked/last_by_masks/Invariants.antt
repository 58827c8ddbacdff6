use Rattle.std.proofs.Common.{◌≡◌, length, map}
use Rattle.item_masks.specs.Masks.{item_mask}
use Rattle.window_order.proofs.LastFound.{AreAbove}
use Rattle.window_order.proofs.masked.last_by_masks.Given as goal

-- the last ones do not have the pair
abbrev pub invariant-rest : goal.invariant-rest
invariant-rest l = record {
  above : AreAbove l.initial.rest l.rest l.p l.p;
  masks : l.of_rest ≡ map item_mask l.rest;
}

abbrev pub decreases-rest : goal.decreases-rest
decreases-rest l = length l.rest
