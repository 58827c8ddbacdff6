use Rattle.std.proofs.Common.{◌≡◌, ◌≤◌, ◌*◌, take}
use Rattle.std.specs.List.{count_by, sum_by}
use Rattle.css_model.specs.Sheets.KeptItems.{is_kept}
use Rattle.css_model.specs.Sheets.Limits.{max_items}
use Rattle.inspect_text.proofs.counting.kept_in_bodies.Given as goal

-- the sum so far, which is small
abbrev pub invariant-loop-block : goal.invariant-loop-block
invariant-loop-block l = record {
  counted : l.count ≡ sum_by (λ m. count_by is_kept m.sheet.items) (take l.block-index l.media);
  bound : l.count ≤ max_items * l.block-index;
}
