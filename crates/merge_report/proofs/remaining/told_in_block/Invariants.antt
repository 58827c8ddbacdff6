use Rattle.std.proofs.Common.{◌≡◌, map, take}
use Rattle.merge_report.proofs.remaining.told_in_block.Given as goal
use Rattle.merge_report.specs.Remaining.{told_in}

-- the entries so far have their block
abbrev pub invariant-loop-entry : goal.invariant-loop-entry
invariant-loop-entry l = l.told.items ≡ map (told_in l.block) (take l.entry-index l.found)
