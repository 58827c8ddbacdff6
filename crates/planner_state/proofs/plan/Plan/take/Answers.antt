use Rattle.std.proofs.Common.{◌≡◌, ◌≤◌, List, length, ap, sym, ◌∙◌, subst}
use Rattle.css_model.specs.declared.sheet.Item.{Item}
use Rattle.css_model.specs.Sheets.Limits.{max_items}
use Rattle.order_laws.specs.Edits.{Edit, edited}
use Rattle.plan_laws.specs.Plannable.{IsPlannable}
use Rattle.step_laws.specs.Free.{Answered}
use Rattle.step_laws.specs.Leading.{Takes}
use Rattle.step_laws.specs.Steps.{IsStep}
use Rattle.planner_state.specs.PlanParts.{PlanParts}
use Rattle.planner_state.specs.State.{IsState}
use Rattle.planner_state.specs.Weighing.{AreWeighable}
use Rattle.planner_state.proofs.Heavier.{weighable_after}
use Rattle.planner_state.proofs.Plannable.{applied, few_after, plannable_after}
use Rattle.planner_state.proofs.Results.{ok_on}
use Rattle.planner_state.proofs.plan.Plan.take.Goals as goal

pub begin-requires-clause-few_items : goal.begin-requires-clause-few_items
begin-requires-clause-few_items c =
    let items = c.args.self.indexed.items in
    let has = c.requires.is_step in
    let same : c.items.result.now ≡ c.args.self.indexed.items = c.items.ensures ∙ ap (λ (p : PlanParts). p.indexed.items) c.self.view_is in
    subst (λ (xs : List Item). length xs ≤ max_items) (sym (applied c.items.result.now items c.in_ok-sheet.sheet.items c.args.step.now same c.in_ok-sheet.ensures has.0 has.1))
    (few_after c.steps_make_of.ensures c.each_is_made_of_itself.ensures c.args.source.now items c.requires.indexed.plannable c.args.step.now has.0 has.1)

pub begin-requires-clause-weighable : goal.begin-requires-clause-weighable
begin-requires-clause-weighable c =
    let items = c.args.self.indexed.items in
    let has = c.requires.is_step in
    let same : c.items.result.now ≡ c.args.self.indexed.items = c.items.ensures ∙ ap (λ (p : PlanParts). p.indexed.items) c.self.view_is in
    subst (AreWeighable c.args.source.now) (sym (applied c.items.result.now items c.in_ok-sheet.sheet.items c.args.step.now same c.in_ok-sheet.ensures has.0 has.1))
    (weighable_after c.steps_make_of.ensures c.each_is_made_of_itself.ensures c.args.source.now items c.requires.indexed.plannable c.args.step.now has.0 has.1)

pub returns-clause-state : goal.returns-clause-state
returns-clause-state c =
    let items = c.args.self.indexed.items in
    let new = c.in_ok-sheet.sheet.items in
    let has = c.requires.is_step in
    let same : c.items.result.now ≡ c.args.self.indexed.items = c.items.ensures ∙ ap (λ (p : PlanParts). p.indexed.items) c.self.view_is in
    let is : c.in_ok-sheet.sheet.items ≡ edited has.0 c.args.self.indexed.items = applied c.items.result.now items new c.args.step.now same c.in_ok-sheet.ensures has.0 has.1 in
    ok_on c.begin.result (λ p. (answers : List Answered) → IsPlannable c.args.source.now new → IsState answers c.args.source.now p)
    (λ p. (answers : List Answered) → IsState answers c.args.source.now c.args.self → ((e : Edit) → IsStep items c.args.step.now e → Takes answers c.args.source.now items (edited e items)) → IsState answers c.args.source.now p)
    (λ p begins answers s takes. begins answers (subst (λ (xs : List Item). IsPlannable c.args.source.now xs) (sym is)
    (plannable_after c.steps_make_of.ensures c.each_is_made_of_itself.ensures c.args.source.now items s.indexed.plannable answers (edited has.0 items) (takes has.0 has.1)))) c.begin.ensures.state
