use Rattle.std.proofs.Common.{◌≡◌, ◌≤◌, take}
use Rattle.std.specs.List.{count_by}
use Rattle.css_model.specs.Sheets.KeptItems.{is_kept}
use Rattle.style_text.proofs.lines.kept_count.Given as goal

abbrev pub invariant-loop-item : goal.invariant-loop-item
invariant-loop-item l = record { counted : l.count ≡ count_by is_kept (take l.item-index l.items); bound : l.count ≤ l.item-index }
