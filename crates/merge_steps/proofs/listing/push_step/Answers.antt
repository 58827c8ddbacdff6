use Rattle.std.proofs.Common.{◌≡◌, ◌+◌, ◌∷◌, ◌++◌, [], List, sym, ap, subst, ◌∙◌}
use Rattle.std.proofs.lemmas.Bool.{false≢true}
use Rattle.css_model.specs.declared.sheet.Item.{Item}
use Rattle.css_model.specs.Sheets.SheetParts.{SheetParts}
use Rattle.merge_steps.proofs.listing.push_step.Goals as goal
use Rattle.merge_steps.proofs.Rows.{pushed, skipped}
use Rattle.merge_steps.specs.Listing.{ListsTo}
use Rattle.step_kinds.specs.StepsByKind.{kind_number}
use Rattle.step_laws.specs.declared.step.Step.{Step}
use Rattle.step_laws.specs.Steps.{HasStep}

pub returns-in_ok-push : goal.returns-in_ok-push
returns-in_ok-push c =
    let same : c.deref.result.now ≡ c.args.sheet.now.items = c.deref.ensures.value ∙ ap (λ (s : SheetParts). s.items) c.sheet.view_is in
    subst (λ (list : List Step). ListsTo c.args.sheet.now.items (kind_number c.args.kind) c.args.first (c.args.second + 1) list)
    (sym (c.in_ok-push.ensures.items ∙ ap (λ (k : Step). c.args.found.now.items ++ k ∷ []) c.step_of-step.ensures))
    (pushed c.args.sheet.now.items c.args.found.now.items c.args.kind c.args.first c.args.second c.requires
    (subst (HasStep c.args.sheet.now.items) c.step_of-step.ensures (subst (λ (xs : List Item). HasStep xs c.step_of-step.result) same (c.in_ok-is.ensures.0 c.if-is.true))))

pub returns-else-is : goal.returns-else-is
returns-else-is c =
    let same : c.deref.result.now ≡ c.args.sheet.now.items = c.deref.ensures.value ∙ ap (λ (s : SheetParts). s.items) c.sheet.view_is in
    skipped c.args.sheet.now.items c.args.found.now.items c.args.kind c.args.first c.args.second c.requires
    (λ has. false≢true (sym c.if-is.false ∙ c.in_ok-is.ensures.1 (subst (λ (xs : List Item). HasStep xs c.step_of-step.result) (sym same) (subst (HasStep c.args.sheet.now.items) (sym c.step_of-step.ensures) has))))
