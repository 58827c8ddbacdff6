use Rattle.std.proofs.Common.{◌≡◌, ℕ, List, ap, subst, ◌∙◌, arith}
use Rattle.css_model.specs.declared.sheet.Item.{Item}
use Rattle.css_model.specs.Sheets.SheetParts.{SheetParts}
use Rattle.merge_steps.proofs.listing.push_row.Goals as goal
use Rattle.merge_steps.proofs.Rows.{row_done}
use Rattle.merge_steps.specs.Listing.{ListsTo, seconds}
use Rattle.step_kinds.specs.StepsByKind.{kind_number}

pub returns : goal.returns
returns c =
    let e : c.loop-second.second ≡ c.seconds-limit.result = omega (arith, c.loop-second-test.false, c.loop-second.auto.second-end) in
    let f : c.seconds-limit.result ≡ seconds c.args.sheet.now.items c.args.kind c.args.first =
    c.seconds-limit.ensures ∙ ap (λ (xs : List Item). seconds xs c.args.kind c.args.first) (c.deref.ensures.value ∙ ap (λ (s : SheetParts). s.items) c.sheet.view_is) in
    row_done c.args.sheet.now.items c.loop-second.found.items c.args.kind c.args.first
    (subst (λ (n : ℕ). ListsTo c.args.sheet.now.items (kind_number c.args.kind) c.args.first n c.loop-second.found.items) (e ∙ f) c.loop-second.invariant)
