use Rattle.std.proofs.Common.{◌≡◌, length, List, ap, ◌∙◌, arith}
use Rattle.css_model.specs.declared.sheet.Item.{Item}
use Rattle.css_model.specs.Sheets.SheetParts.{SheetParts}
use Rattle.merge_steps.proofs.listing.push_kind.Goals as goal
use Rattle.merge_steps.proofs.Rows.{kind_done}
use Rattle.step_kinds.specs.StepsByKind.{kind_number}

pub returns : goal.returns
returns c =
    let e : c.loop-first.first ≡ length c.as_slice-items.result.now = omega (arith, c.loop-first-test.false, c.loop-first.auto.first-end) in
    kind_done c.args.sheet.now.items c.loop-first.found.items (kind_number c.args.kind) c.loop-first.first
    (e ∙ ap (λ (xs : List Item). length xs) (c.as_slice-items.ensures.value ∙ ap (λ (s : SheetParts). s.items) c.sheet.view_is)) c.loop-first.invariant
