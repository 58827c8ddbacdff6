use Rattle.std.proofs.Common.{◌≡◌, ◌+◌, ◌++◌, length}
use Rattle.std.specs.List.{enumerate_from, flat_map}
use Rattle.css_model.specs.Sheets.Sound.{IsSound}
use Rattle.dead_sel.specs.Held.{is_dead}
use Rattle.lint_text.specs.Findings.{found_of}
use Rattle.lint_text.proofs.searching.find_in_items.Given as goal

-- what was found, and what is found in the items that are left
abbrev pub invariant-items : goal.invariant-items
invariant-items l = record {
  found : l.found.items ++ flat_map (found_of (is_dead l.pairs.answers) l.level) (enumerate_from l.number l.rest)
      ≡ l.fn.found.items ++ flat_map (found_of (is_dead l.pairs.answers) l.level) (enumerate_from 0 l.fn.items);
  sound : IsSound l.level.source l.rest;
  number : l.number + length l.rest ≡ length l.fn.items;
}

abbrev pub decreases-items : goal.decreases-items
decreases-items l = length l.rest
