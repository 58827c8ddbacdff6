use Rattle.std.proofs.Common.{◌≡◌, ◌≤◌, length, ◌+◌}
use Rattle.css_model.specs.Sheets.KeptItems as kept
use Rattle.sheet_order.proofs.comparing.kept_before.Given as goal

-- what was counted, and what is left to count
abbrev pub invariant-rest : goal.invariant-rest
invariant-rest l = record {
  kept : l.kept + kept.kept_before l.left l.rest ≡ kept.kept_before l.number l.items;
  few : l.kept + length l.rest ≤ length l.items;
}

abbrev pub decreases-rest : goal.decreases-rest
decreases-rest l = length l.rest
