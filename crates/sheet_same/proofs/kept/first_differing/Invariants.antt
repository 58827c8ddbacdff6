use Rattle.std.proofs.Common.{◌≡◌, ◌≤◌, ◌+◌, length}
use Rattle.css_model.specs.Sheets.KeptItems.{kept_items}
use Rattle.sheet_same.specs.Kept as spec
use Rattle.sheet_same.proofs.kept.first_differing.Given as goal

-- the earlier ones are the same
abbrev pub invariant-left : goal.invariant-left
invariant-left l = record {
  same : spec.differing_from l.number l.reading.source.now l.blocks (kept_items l.left) l.there.source.now l.more (kept_items l.right)
      ≡ spec.differing_from 0 l.reading.source.now l.media (kept_items l.items) l.there.source.now l.twins (kept_items l.others);
  few : l.number + length l.left ≤ length l.items;
}

abbrev pub decreases-left : goal.decreases-left
decreases-left l = length l.left
