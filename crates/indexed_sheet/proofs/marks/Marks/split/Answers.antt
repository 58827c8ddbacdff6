use Rattle.std.proofs.Common.{◌-◌, ◌<◌, length, arith, sym}
use Rattle.std.proofs.lemmas.Option.{get_or_from_slice_get}
use Rattle.indexed_sheet.proofs.MarkLists.{first_split, split_marks, split_is, within_is}
use Rattle.indexed_sheet.proofs.marks.Marks.split.Goals as goal

pub invariant_of-result : goal.invariant_of-result
invariant_of-result c =
    let within : c.args.number < length c.self.inside.list = within_is c.args.self c.self.inside.list c.self.inside.next c.args.number c.self.view_is c.requires.at in
    rw (c.in_ok-insert.ensures.list, c.set.ensures.list) (
      split_marks c.self.inside.list c.self.inside.next c.args.number c.mark_at-above.result c.mark_at-below.result c.middle-order_key.result within c.requires.behind
          (sym (get_or_from_slice_get c.self.inside.list (c.args.number - 1) c.mark_at-above.result c.mark_at-above.result c.mark_at-above.ensures)) (sym (get_or_from_slice_get c.self.inside.list c.args.number c.mark_at-below.result c.mark_at-below.result c.mark_at-below.ensures)) c.middle-order_key.ensures.more c.middle-order_key.ensures.less c.self.invariant.0,
      omega (arith, c.self.invariant.1),
      first_split c.self.inside.list c.self.inside.next c.self.inside.first c.args.number c.mark_at-below.result.order_key c.middle-order_key.result within c.self.invariant.1 c.self.invariant.0 c.self.invariant.2,
    )

pub returns-clause-marks : goal.returns-clause-marks
returns-clause-marks c =
    rw (c.in_ok-insert.ensures.list, c.set.ensures.list)
    (split_is c.args.self c.self.inside.list c.self.inside.next c.args.number c.mark_at-below.result.order_key c.middle-order_key.result c.self.view_is c.requires.at)
