use Rattle.std.proofs.Common.{◌≡◌, ◌++◌, take}
use Rattle.std.specs.List.{flat_map}
use Rattle.diff_text.specs.Lines.{told_lines}
use Rattle.diff_text.proofs.telling.put_all_told.Given as goal

abbrev pub invariant-loop-number : goal.invariant-loop-number
invariant-loop-number l = l.out.items ≡ l.fn.out.items ++ flat_map (told_lines l.sides) (take l.number l.told)
