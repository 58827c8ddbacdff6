use Rattle.std.proofs.Common.{ℕ, ◌+◌, ◌<◌, ◌≤◌}
use Rattle.sibling_counts.specs.Sides.{PassesTests}
use Rattle.sibling_counts.proofs.scan.stride.Given as goal

abbrev pub invariant-loop-test : goal.invariant-loop-test
invariant-loop-test l = record {
  moves : 0 < l.stride;
  small : l.stride ≤ 32;
  skips : (n : ℕ) → l.number < n → n < l.number + l.stride → PassesTests l.tests n → ⊥;
}
