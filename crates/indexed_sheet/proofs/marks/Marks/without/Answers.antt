use Rattle.std.proofs.Common.{◌<◌, length}
use Rattle.indexed_sheet.proofs.MarkLists.{first_without, marks_without, without_is, within_is}
use Rattle.indexed_sheet.proofs.marks.Marks.without.Goals as goal

pub invariant_of-result : goal.invariant_of-result
invariant_of-result c =
    let within : c.args.number < length c.self.inside.list = within_is c.args.self c.self.inside.list c.self.inside.next c.args.number c.self.view_is c.requires in
    rw c.remove.ensures.list (
      marks_without c.self.inside.list c.self.inside.next c.args.number within c.self.invariant.0,
      c.self.invariant.1,
      first_without c.self.inside.list c.self.inside.first c.args.number within c.self.invariant.2,
    )

pub returns-clause-marks : goal.returns-clause-marks
returns-clause-marks c = rw c.remove.ensures.list (without_is c.args.self c.self.inside.list c.self.inside.next c.args.number c.self.view_is)
