use Rattle.std.proofs.Common.{◌≡◌, ◌≤◌, ◌++◌, ◌+◌, false, length, map}
use Rattle.std.specs.List.{enumerate_from}
use Rattle.css_model.specs.Sheets.Sound.{IsSound}
use Rattle.doc_text.specs.DocText.{ended}
use Rattle.list_text.specs.ListTexts.{item_line}
use Rattle.list_text.proofs.walking.put_inner.Given as goal

-- what was written, and the lines of the items that are left, are all lines
abbrev pub invariant-items : goal.invariant-items
invariant-items l = record {
  text : l.out.items ++ ended (map (item_line l.lines.text.now l.level false) (enumerate_from (l.before + 1) l.rest))
      ≡ l.fn.out.items ++ ended (map (item_line l.lines.text.now l.level false) (enumerate_from 1 l.level.items));
  sound : IsSound l.level.source l.rest;
  size : l.before + length l.rest ≤ length l.level.items;
}

abbrev pub decreases-items : goal.decreases-items
decreases-items l = length l.rest
