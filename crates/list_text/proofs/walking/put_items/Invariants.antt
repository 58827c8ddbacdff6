use Rattle.std.proofs.Common.{◌≡◌, ◌≤◌, ◌++◌, ◌+◌, length}
use Rattle.std.specs.List.{enumerate_from, flat_map}
use Rattle.css_model.specs.Sheets.Sound.{IsSound}
use Rattle.doc_text.specs.DocText.{ended}
use Rattle.list_text.specs.ListTexts.{item_lines, list_lines}
use Rattle.list_text.specs.Standing.{AreLeft}
use Rattle.list_text.proofs.walking.put_items.Given as goal

-- what was written, and the lines of the items that are left, are all lines
abbrev pub invariant-items : goal.invariant-items
invariant-items l = record {
  text : l.out.items ++ ended (flat_map (item_lines l.lines.text.now l.level.items) (enumerate_from (l.before + 1) l.rest))
      ≡ l.fn.out.items ++ ended (list_lines l.lines.text.now l.level.items);
  sound : IsSound l.level.source l.rest;
  left : AreLeft l.lines.text.now l.level.items l.before l.rest l.blocks;
  size : l.before + length l.rest ≤ length l.level.items;
}

abbrev pub decreases-items : goal.decreases-items
decreases-items l = length l.rest
