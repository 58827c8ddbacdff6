use Rattle.std.proofs.Common.{◌≡◌, ◌++◌, length}
use Rattle.std.specs.List.{AllZip}
use Rattle.css_model.specs.Sheets.Sound.{IsSound}
use Rattle.media_groups.specs.Printed.{IsSoundBody, texts_with}
use Rattle.media_groups.proofs.printing.put_items.Given as goal

-- what was written, and the texts of the items that are left, are the whole text
abbrev pub invariant-items : goal.invariant-items
invariant-items l = record {
  text : l.out.items ++ texts_with l.reading.source.now l.blocks l.sheets l.rest ≡ l.fn.out.items ++ texts_with l.reading.source.now l.media l.bodies l.items;
  sound : IsSound l.reading.source.now l.rest;
  bodies : AllZip (IsSoundBody l.reading.source.now) l.blocks l.sheets;
}

abbrev pub decreases-items : goal.decreases-items
decreases-items l = length l.rest
