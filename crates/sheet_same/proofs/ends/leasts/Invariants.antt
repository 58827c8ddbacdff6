use Rattle.std.proofs.Common.{◌≡◌, ◌≤◌, length, take, reverse}
use Rattle.std.specs.Prelude.{slice_get}
use Rattle.sheet_same.specs.Ends as spec
use Rattle.sheet_same.proofs.ends.leasts.Given as goal

-- those of the last members are there, the first of them last
abbrev pub invariant-left : goal.invariant-left
invariant-left l = record {
  within : l.left ≤ length l.members;
  list : spec.leasts_on (take l.left l.members) (reverse l.found.items) ≡ spec.leasts l.members;
  first : l.behind ≡ slice_get (reverse l.found.items) 0;
}

abbrev pub decreases-left : goal.decreases-left
decreases-left l = l.left
