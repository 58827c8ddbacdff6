use Rattle.std.proofs.Common.{◌<◌, arith, sym}
use Rattle.std.proofs.lemmas.Option.{get_or_from_slice_get}
use Rattle.indexed_sheet.proofs.MarkLists.{oldest_is}
use Rattle.indexed_sheet.proofs.marks.Marks.is_oldest_below.Goals as goal

pub returns : goal.returns
returns c = λ told.
    let early : c.mark_at.result.item_id < c.self.inside.first = grind (arith, told) in
    oldest_is c.args.self.now c.self.inside.list c.self.inside.next c.self.inside.first c.args.number c.mark_at.result c.self.view_is c.self.invariant.2 (sym (get_or_from_slice_get c.self.inside.list c.args.number c.mark_at.result c.mark_at.result c.mark_at.ensures)) early
