use Rattle.std.proofs.Common.{ℕ, ◌+◌, ◌-◌, ◌<◌, ◌≤◌}
use Rattle.sibling_counts.specs.Sides.{PassesTests}
use Rattle.sibling_counts.proofs.scan.first_passing.Given as goal

abbrev pub invariant-loop-number : goal.invariant-loop-number
invariant-loop-number l = record {
  start : l.start ≤ l.number;
  small : l.number ≤ l.limit + 32;
  none : (n : ℕ) → l.start ≤ n → n < l.number → PassesTests l.tests n → ⊥;
}

abbrev pub decreases-loop-number : goal.decreases-loop-number
decreases-loop-number l = l.limit - l.number
