use Rattle.std.proofs.Common.{◌≡◌, ◌≤◌, take}
use Rattle.std.specs.List.{count_by}
use Rattle.diff_text.specs.Counting.{is_of}
use Rattle.diff_text.proofs.counting.count_of.Given as goal

abbrev pub invariant-loop-word : goal.invariant-loop-word
invariant-loop-word l = record {
  count : l.count ≡ count_by (is_of l.group) (take l.word-index l.words);
  few : l.count ≤ l.word-index;
}
