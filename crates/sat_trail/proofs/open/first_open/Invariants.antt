use Rattle.std.proofs.Common.{◌≡◌, ◌<◌, ℕ, true, false, length, get_or}
use Rattle.sat_trail.specs.Open.{IsOpen}
use Rattle.sat_trail.proofs.open.first_open.Given as goal

abbrev pub invariant-first : goal.invariant-first
invariant-first l = record {
  size : length l.heap.is_in ≡ length l.fn.heap.is_in;
  in_heap : (v : ℕ) → v < length l.fn.heap.is_in → IsOpen l.places v → get_or l.heap.is_in v false ≡ true;
}

abbrev pub decreases-first : goal.decreases-first
decreases-first l = length l.heap.order
