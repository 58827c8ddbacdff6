use Rattle.std.proofs.Common.{◌≡◌, ◌+◌, ◌++◌, length}
use Rattle.std.specs.List.{enumerate_from, flat_map}
use Rattle.sheet_members.specs.Occurrences.{by_item}
use Rattle.css_model.specs.Sheets.Sound.{IsSound}
use Rattle.sheet_members.proofs.laying.push_items.Given as goal

-- what was put, and what is left to put
abbrev pub invariant-items : goal.invariant-items
invariant-items l = record {
  found : l.found.items ++ flat_map (by_item l.layer) (enumerate_from l.number l.rest) ≡ l.fn.found.items ++ flat_map (by_item l.layer) (enumerate_from 0 l.fn.items);
  sound : IsSound l.layer.source l.rest;
  number : l.number + length l.rest ≡ length l.fn.items;
}

abbrev pub decreases-items : goal.decreases-items
decreases-items l = length l.rest
