-- So far it is the threshold of the parts so far.
use Rattle.std.proofs.Common.{◌≡◌, ◌≤◌, take}
use Rattle.nth_positions.specs.Gaps.{threshold_of}
use Rattle.nth_positions.proofs.limits.threshold.Given as goal

abbrev pub invariant-loop-x : goal.invariant-loop-x
invariant-loop-x l = record {
  exact : l.greatest ≡ threshold_of (take l.x-index l.parts);
  small : l.greatest ≤ 1000;
}
