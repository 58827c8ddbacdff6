use Rattle.std.proofs.Common.{◌≡◌, ◌*◌, ◌<◌, ℕ, length, get_or}
use Rattle.indexed_sheet.specs.declared.marks.Mark.{Mark}
use Rattle.indexed_sheet.proofs.MarkLists.{gap}
use Rattle.indexed_sheet.proofs.marks.Marks.new.Given as goal

-- the marks so far
abbrev pub invariant-loop-item_id : goal.invariant-loop-item_id
invariant-loop-item_id l = record {
  many : length l.list.items ≡ l.item_id;
  each : (k : ℕ) (d : Mark) → k < length l.list.items → get_or l.list.items k d ≡ record { order_key = k * gap; item_id = k };
}
