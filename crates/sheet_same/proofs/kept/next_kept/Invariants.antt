use Rattle.std.proofs.Common.{◌≡◌, ◌≤◌, length}
use Rattle.css_model.specs.Sheets.KeptItems.{kept_items}
use Rattle.sheet_same.proofs.kept.next_kept.Given as goal

-- the earlier ones are not kept
abbrev pub invariant-rest : goal.invariant-rest
invariant-rest l = record {
  same : kept_items l.items ≡ kept_items l.rest;
  few : length l.rest ≤ length l.items;
}

abbrev pub decreases-rest : goal.decreases-rest
decreases-rest l = length l.rest
