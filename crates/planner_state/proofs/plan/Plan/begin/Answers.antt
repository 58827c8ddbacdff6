use Rattle.std.proofs.Common.{◌≡◌, List, [], ap, sym, ◌∙◌, subst}
use Rattle.css_model.specs.declared.sheet.Item.{Item}
use Rattle.indexed_sheet.specs.IndexedParts.{IndexedParts}
use Rattle.pending_laws.specs.declared.way.Way.{Way}
use Rattle.plan_laws.specs.Plannable.{IsPlannable}
use Rattle.planner_state.specs.PlanParts.{PlanParts}
use Rattle.planner_state.specs.State.{IsState}
use Rattle.planner_state.specs.Weighing.{AreWeighable}
use Rattle.planner_state.proofs.Starting.{none_on, start_state}
use Rattle.planner_state.proofs.Weighed.{are_weighed}
use Rattle.planner_state.proofs.plan.Plan.begin.Goals as goal
use Rattle.step_queue.specs.BarrierParts.{barriers_on}

pub put_created-requires-clause-weighable : goal.put_created-requires-clause-weighable
put_created-requires-clause-weighable c = subst (AreWeighable c.args.source.now) (sym (ap (λ (b : IndexedParts). b.items) c.in_ok-plan.ensures.indexed ∙ c.in_ok-indexed.ensures.items)) c.requires.weighable

pub returns-clause-state : goal.returns-clause-state
returns-clause-state c =
    let bare : PlanParts = c.in_ok-plan.plan in
    let new : PlanParts = c.put_created.new.self in
    let made : PlanParts = record bare { tables = new.tables; candidates = new.candidates; homes = new.homes; weights = new.weights } in
    let items : bare.indexed.items ≡ c.args.sheet.items = ap (λ (b : IndexedParts). b.items) c.in_ok-plan.ensures.indexed ∙ c.in_ok-indexed.ensures.items in
    let no_barriers : (way : Way) → barriers_on way bare.barriers ≡ [] = none_on bare.barriers c.in_ok-plan.ensures.ups c.in_ok-plan.ensures.downs in
    λ answers plannable. subst (λ (p : PlanParts). IsState answers c.args.source.now p) (sym c.in_ok-put_created.ensures.same)
    (start_state c.start_is_known.ensures c.cover_is_of_each.ensures answers c.args.source.now made (subst (λ (xs : List Item). IsPlannable c.args.source.now xs) (sym items) plannable)
    c.in_ok-put_created.ensures.marked c.in_ok-plan.ensures.entries no_barriers (are_weighed c.args.source.now bare.indexed new.weights c.in_ok-put_created.ensures.marked c.in_ok-put_created.ensures.weighed) c.in_ok-put_created.ensures.enqueued)
