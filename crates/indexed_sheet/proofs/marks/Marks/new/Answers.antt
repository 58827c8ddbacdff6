use Rattle.std.proofs.Common.{◌≡◌, length, arith}
use Rattle.indexed_sheet.proofs.MarkLists.{first_are_first, first_marks}
use Rattle.indexed_sheet.proofs.marks.Marks.new.Goals as goal

pub invariant_of-result : goal.invariant_of-result
invariant_of-result c =
    let many : length c.loop-item_id.list.items ≡ c.args.count = omega arith in
    rw c.new.ensures (
      first_marks c.loop-item_id.list.items c.args.count many c.loop-item_id.invariant.each,
      omega arith,
      first_are_first c.loop-item_id.list.items c.args.count c.loop-item_id.invariant.each,
    )
