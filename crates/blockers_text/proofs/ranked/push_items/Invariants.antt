use Rattle.std.proofs.Common.{◌≡◌, ◌+◌, ◌++◌, length}
use Rattle.std.specs.List.{enumerate_from, flat_map}
use Rattle.blockers_text.proofs.ranked.push_items.Given as goal
use Rattle.blockers_text.specs.Lines.{ranked_at}
use Rattle.css_model.specs.Sheets.Sound.{IsSound}

-- what was put, and the items that are left
abbrev pub invariant-items : goal.invariant-items
invariant-items l = record {
  found : l.found.items ++ flat_map (ranked_at l.level l.tallies) (enumerate_from l.number l.rest)
      ≡ l.fn.found.items ++ flat_map (ranked_at l.level l.tallies) (enumerate_from 0 l.level.items);
  sound : IsSound l.level.source l.rest;
  number : l.number + length l.rest ≡ length l.level.items;
}

abbrev pub decreases-items : goal.decreases-items
decreases-items l = length l.rest
