use Rattle.std.proofs.Common.{refl, sym, subst}
use Rattle.planner_state.specs.Filled.{IsFilled}
use Rattle.planner_state.specs.PlanParts.{PlanParts}
use Rattle.planner_state.specs.Weighing.{AreWeighable}
use Rattle.planner_state.proofs.Results.{if_both}
use Rattle.planner_state.proofs.plan.Plan.put_created.Goals as goal

pub weigh_created-requires-clause-weighable : goal.weigh_created-requires-clause-weighable
weigh_created-requires-clause-weighable c = subst (λ (p : PlanParts). AreWeighable c.args.source.now p.indexed.items) (sym c.self.view_is) c.requires.weighable

pub returns : goal.returns
returns c =
    let new : PlanParts = record { indexed = c.self.inside.indexed; tables = c.enqueue.new.tables; candidates = c.enqueue.new.queue; entries = c.self.inside.watched; homes = c.enqueue.new.homes.items; barriers = c.self.inside.barriers; weights = c.weigh_created.new.weights } in
    if_both c.weigh_created.result (λ weighed stay. subst (λ (p : PlanParts). IsFilled c.args.source.now c.args.created.put c.args.created.next p new) c.self.view_is
    (record { same = refl; marked = c.in_ok-enqueue.ensures.marked; enqueued = c.in_ok-enqueue.ensures.enqueued; stay = c.in_ok-enqueue.ensures.stay; weighed = weighed; weights = stay })) c.weigh_created.ensures.weighed c.weigh_created.ensures.stay
