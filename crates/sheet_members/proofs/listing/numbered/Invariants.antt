use Rattle.std.proofs.Common.{◌≡◌, ◌++◌, [], take, drop}
use Rattle.std.specs.HashMap.{get}
use Rattle.sheet_members.specs.Labels.{same_label}
use Rattle.sheet_members.specs.Members.{numbered}
use Rattle.sheet_members.specs.Tables.{AreCounts}
use Rattle.sheet_members.proofs.Repeats.{labels_of}
use Rattle.sheet_members.proofs.listing.numbered.Given as goal

-- the labels so far are counted; those found, and those to come
abbrev pub invariant-loop-m : goal.invariant-loop-m
invariant-loop-m l = record {
  counts : AreCounts (labels_of (take l.m-index l.members)) (get same_label l.counts);
  found : l.found.items ++ numbered (labels_of (take l.m-index l.members)) (drop l.m-index l.members) ≡ numbered [] l.members;
}
