use Rattle.std.proofs.Common.{◌≤◌, length, drop}
use Rattle.sheet_members.specs.Members.{lasts}
use Rattle.sheet_members.specs.Tables.{IsBack}
use Rattle.sheet_members.proofs.listing.lasts_back.Given as goal

-- those that count among the last ones
abbrev pub invariant-left : goal.invariant-left
invariant-left l = record {
  within : l.left ≤ length l.occurrences;
  back : IsBack (lasts (drop l.left l.occurrences)) l.listed.keys l.found.items;
}

abbrev pub decreases-left : goal.decreases-left
decreases-left l = l.left
