use Rattle.std.proofs.Common.{◌≡◌, ◌+◌, ◌^◌, ℕ, length}
use Rattle.blockers_text.proofs.tallies.count_each.Given as goal
use Rattle.blockers_text.specs.Bounds.{AreBelow}
use Rattle.blockers_text.specs.Tallies.{counted_each}

-- the step is counted for the entries so far
abbrev pub invariant-entries : goal.invariant-entries
invariant-entries l = record {
  counts : counted_each l.tallies.items l.rest l.stopped ≡ counted_each l.fn.tallies.items l.by l.stopped;
  below : (m : ℕ) × (m + length l.rest ≡ 2 ^ 64 + length l.by) × AreBelow m l.tallies.items;
}

abbrev pub decreases-entries : goal.decreases-entries
decreases-entries l = length l.rest
