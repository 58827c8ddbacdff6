use Rattle.std.proofs.Common.{◌≡◌, ◌≤◌, take}
use Rattle.std.specs.List.{count_by}
use Rattle.diff_text.proofs.counting.changed_count.Given as goal

abbrev pub invariant-loop-common : goal.invariant-loop-common
invariant-loop-common l = record {
  count : l.count ≡ count_by (λ c. c.mine.label.changed) (take l.common-index l.commons);
  few : l.count ≤ l.common-index;
}
