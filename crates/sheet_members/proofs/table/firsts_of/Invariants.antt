use Rattle.std.proofs.Common.{take}
use Rattle.std.specs.HashMap.{get}
use Rattle.sheet_members.specs.Labels.{same_label}
use Rattle.sheet_members.specs.Tables.{ArePlaces}
use Rattle.sheet_members.proofs.table.firsts_of.Given as goal

-- the places of those so far
abbrev pub invariant-loop-number : goal.invariant-loop-number
invariant-loop-number l = ArePlaces (take l.number l.members) (get same_label l.firsts)
