use Rattle.std.proofs.Common.{◌≡◌, ℕ, ◌+◌, ◌≤◌, List, true, ap, ap₂, subst, sym, ◌∙◌}
use Rattle.css_model.specs.declared.sheet.DeclItem.{DeclItem}
use Rattle.css_model.specs.Sheets.Limits.{max_bytes}
use Rattle.css_model.specs.Sheets.Printed.{printed_declaration}
use Rattle.css_model.specs.Sheets.RuleParts.{RuleParts}
use Rattle.saved_bytes.specs.Savings.{IsSaving}
use Rattle.step_laws.specs.declared.step.Step.TheVariants.{Share}
use Rattle.step_laws.specs.Sizes.{weight}
use Rattle.rule_tables.proofs.ForCallers.{some_then}
use Rattle.next_step.proofs.Sharing.{saves_none, saves_rest, weighable}
use Rattle.next_step.proofs.by_declarations.shares.saving_of.Goals as goal
use Rattle.next_step.specs.Shares.{among_weight}

pub returns-in-Some : goal.returns-in-Some
returns-in-Some c =
    let above = c.deref.ensures.value ∙ ap (λ (r : RuleParts). r.decls) c.above.view_is in
    let below = c.deref-2.ensures.value ∙ ap (λ (r : RuleParts). r.decls) c.below.view_is in
    let common : among_weight c.args.view.now.source.now c.deref.result.now c.deref-2.result.now ≡ among_weight c.args.view.now.source.now c.args.above.now.decls c.args.below.now.decls = ap₂ (among_weight c.args.view.now.source.now) above below in
    some_then c.saving_above.result (λ n. (c.args.partners.now.apart ≡ true) × (n + (c.kept_weight.result + c.kept_weight-2.result) ≡ c.in-Some.weight)) (IsSaving c.args.view.now.source.now c.args.view.now.indexed.now.items (Share c.args.partners.now.upper c.args.partners.now.lower))
    (λ n (apart, rest). saves_rest c.args.view.now.source.now c.args.view.now.indexed.now.items c.args.partners.now.upper c.args.partners.now.lower c.args.above.now c.args.below.now c.requires.view.plannable.sound c.requires.above c.requires.below c.requires.once
    c.kept_weight.result c.kept_weight-2.result c.kept_weight.ensures.kept c.kept_weight-2.ensures.kept c.common_weight-more.result c.common_weight-more.ensures.most n (c.common_weight-more.ensures.exact apart)
    (rest ∙ c.in-Some.ensures.exact ∙ ap (λ (m : ℕ). m + c.common_weight-more.result) common)) c.saving_above.ensures

pub returns-in-None : goal.returns-in-None
returns-in-None c =
    let above = c.deref.ensures.value ∙ ap (λ (r : RuleParts). r.decls) c.above.view_is in
    let below = c.deref-2.ensures.value ∙ ap (λ (r : RuleParts). r.decls) c.below.view_is in
    let common : among_weight c.args.view.now.source.now c.deref.result.now c.deref-2.result.now ≡ among_weight c.args.view.now.source.now c.args.above.now.decls c.args.below.now.decls = ap₂ (among_weight c.args.view.now.source.now) above below in
    saves_none c.args.view.now.source.now c.args.view.now.indexed.now.items c.args.partners.now.upper c.args.partners.now.lower c.args.above.now c.args.below.now c.requires.view.plannable.sound c.requires.above c.requires.below c.requires.once
    c.kept_weight.result c.kept_weight-2.result c.kept_weight.ensures.kept c.kept_weight-2.ensures.kept c.common_weight-more.result c.common_weight-more.ensures.most
    (subst (λ (m : ℕ). m + c.common_weight-more.result ≤ c.kept_weight.result + c.kept_weight-2.result) common c.in-None.ensures.none)

pub kept_weight-requires-clause-weighable : goal.kept_weight-requires-clause-weighable
kept_weight-requires-clause-weighable c = weighable c.args.view.now.source.now c.args.view.now.indexed.now.items c.args.partners.now.upper c.args.above.now c.requires.view.plannable c.requires.above

pub kept_weight-requires-2-clause-weighable : goal.kept_weight-requires-2-clause-weighable
kept_weight-requires-2-clause-weighable c = weighable c.args.view.now.source.now c.args.view.now.indexed.now.items c.args.partners.now.lower c.args.below.now c.requires.view.plannable c.requires.below

pub common_weight-more-requires-clause-weighable : goal.common_weight-more-requires-clause-weighable
common_weight-more-requires-clause-weighable c = weighable c.args.view.now.source.now c.args.view.now.indexed.now.items c.args.partners.now.lower c.args.below.now c.requires.view.plannable c.requires.below

pub common_weight-more-requires-clause-apart : goal.common_weight-more-requires-clause-apart
common_weight-more-requires-clause-apart c = λ known. c.requires.partners.apart known c.args.above.now c.args.below.now c.requires.above c.requires.below

pub weight_above-requires-clause-small : goal.weight_above-requires-clause-small
weight_above-requires-clause-small c =
    let above = c.deref.ensures.value ∙ ap (λ (r : RuleParts). r.decls) c.above.view_is in
    subst (λ (ds : List DeclItem). weight (printed_declaration c.args.view.now.source.now) ds ≤ max_bytes) (sym above)
    (weighable c.args.view.now.source.now c.args.view.now.indexed.now.items c.args.partners.now.upper c.args.above.now c.requires.view.plannable c.requires.above).small_decls
