use Rattle.std.proofs.Common.{◌≡◌, ◌++◌, map, take}
use Rattle.sheet_same.specs.Members as spec
use Rattle.sheet_same.proofs.members.push_pairs.Given as goal

-- the first ones stand behind the others
abbrev pub invariant-loop-pair : goal.invariant-loop-pair
invariant-loop-pair l = l.found.items ≡ l.fn.found.items ++ map spec.Paired (take l.pair-index l.pairs)
