use Rattle.std.proofs.Common.{◌≡◌, ◌∙◌, Some, ap, sym}
use Rattle.std.specs.Prelude.{slice_get}
use Rattle.std.proofs.lemmas.Option.{slice_get-get_or}
use Rattle.indexed_sheet.specs.declared.marks.Mark.{Mark}
use Rattle.planner_state.proofs.leaving.uncover_at.Goals as goal

pub returns-clause-still : goal.returns-clause-still
returns-clause-still c =
    let at : slice_get c.args.marks.now c.args.number ≡ Some c.in-Some.mark.now =
    slice_get-get_or c.args.marks.now c.args.number c.in-Some.mark.now c.in-Some.ensures.lookup.3.0 ∙ ap (λ (m : Mark). Some m) (sym (c.in-Some.ensures.lookup.3.1 c.in-Some.mark.now)) in
    λ rules other cover. c.uncover_item.ensures.still rules (other c.in-Some.mark.now at) cover
