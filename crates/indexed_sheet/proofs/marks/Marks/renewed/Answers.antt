use Rattle.std.proofs.Common.{◌<◌, length, ap, sym, arith}
use Rattle.std.proofs.lemmas.Option.{get_or_from_slice_get}
use Rattle.indexed_sheet.specs.declared.marks.Mark.{Mark}
use Rattle.indexed_sheet.proofs.MarkLists.{first_renewed, marks_renewed, renewed_is, within_is}
use Rattle.indexed_sheet.proofs.marks.Marks.renewed.Goals as goal

pub invariant_of-result : goal.invariant_of-result
invariant_of-result c =
    let within : c.args.number < length c.self.inside.list = within_is c.args.self c.self.inside.list c.self.inside.next c.args.number c.self.view_is c.requires.at in
    rw c.set.ensures.list (
      marks_renewed c.self.inside.list c.self.inside.next c.args.number c.mark_at-order_key.result.order_key within
          (λ d. ap (λ (m : Mark). m.order_key) (sym (get_or_from_slice_get c.self.inside.list c.args.number c.mark_at-order_key.result d c.mark_at-order_key.ensures))) c.self.invariant.0,
      omega (arith, c.self.invariant.1),
      first_renewed c.self.inside.list c.self.inside.next c.self.inside.first c.args.number c.mark_at-order_key.result.order_key within c.self.invariant.1 c.self.invariant.0 c.self.invariant.2,
    )

pub returns-clause-marks : goal.returns-clause-marks
returns-clause-marks c =
    rw c.set.ensures.list
    (renewed_is c.args.self c.self.inside.list c.self.inside.next c.args.number c.mark_at-order_key.result c.self.view_is c.requires.at
    (sym (get_or_from_slice_get c.self.inside.list c.args.number c.mark_at-order_key.result c.mark_at-order_key.result c.mark_at-order_key.ensures)))
