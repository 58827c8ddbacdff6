use Rattle.std.proofs.Common.{◌≡◌, ◌≤◌, length, take}
use Rattle.sat_trail.specs.Places.{IsPlaced}
use Rattle.sat_trail.specs.Trail.{up_to}
use Rattle.sat_trail.proofs.places.forget_above.Given as goal

abbrev pub invariant-loop-kept : goal.invariant-loop-kept
invariant-loop-kept l = record {
  bound : l.kept ≤ length l.entries;
  kept : up_to l.level (take l.kept l.entries) ≡ up_to l.level l.entries;
  placed : IsPlaced (take l.kept l.entries) l.places.items;
  size : length l.places.items ≡ length l.fn.places.items;
}

abbrev pub decreases-loop-kept : goal.decreases-loop-kept
decreases-loop-kept l = l.kept
