use Rattle.std.proofs.Common.{◌≡◌, map, take}
use Rattle.sheet_same.specs.Standing as spec
use Rattle.sheet_same.proofs.standing.standings.Given as goal

-- the first ones are there
abbrev pub invariant-loop-member : goal.invariant-loop-member
invariant-loop-member l = l.found.items ≡ map (spec.standing_of l.twins.sheet.now.items.now l.twins.other.now.items.now) (take l.member-index l.members)
