use Rattle.std.proofs.Common.{◌≡◌, drop}
use Rattle.sheet_same.specs.Lacking as spec
use Rattle.sheet_same.proofs.lacking.first_lacking.Given as goal

-- none of the earlier ones is lacking
abbrev pub invariant-loop-member : goal.invariant-loop-member
invariant-loop-member l = spec.first_lacking l.pairs (drop l.member-index l.members) ≡ spec.first_lacking l.pairs l.members
