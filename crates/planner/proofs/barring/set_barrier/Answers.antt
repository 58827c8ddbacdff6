use Rattle.std.proofs.Common.{sym, subst}
use Rattle.planner.proofs.Results.{on_four}
use Rattle.planner.proofs.Barred.{set_queued}
use Rattle.planner.proofs.barring.set_barrier.Goals as goal
use Rattle.planner.specs.Barring.{MakesBarrierFor}
use Rattle.obstacles.specs.Blocking.{IsBlockedBy}
use Rattle.planner_state.specs.PlanParts.{PlanParts}
use Rattle.planner_state.specs.State.{IsIndexed}
use Rattle.step_laws.specs.Steps.{HasStep}

pub barrier_of-requires-clause-few : goal.barrier_of-requires-clause-few
barrier_of-requires-clause-few c = (subst (IsIndexed c.requires.indexed.0) (sym c.plan.view_is) c.requires.indexed.1).plannable.few_items

pub barrier_of-requires-clause-cover : goal.barrier_of-requires-clause-cover
barrier_of-requires-clause-cover c = (subst (IsIndexed c.requires.indexed.0) (sym c.plan.view_is) c.requires.indexed.1).covered

pub barrier_of-requires-clause-marked : goal.barrier_of-requires-clause-marked
barrier_of-requires-clause-marked c = (subst (IsIndexed c.requires.indexed.0) (sym c.plan.view_is) c.requires.indexed.1).marked

pub barrier_of-requires-clause-step_of : goal.barrier_of-requires-clause-step_of
barrier_of-requires-clause-step_of c = subst (λ (p : PlanParts). HasStep p.indexed.items c.args.step.now) (sym c.plan.view_is) c.requires.step_of

pub barrier_of-requires-clause-blocked : goal.barrier_of-requires-clause-blocked
barrier_of-requires-clause-blocked c = (
  c.requires.blocked.0,
  subst (λ (p : PlanParts). IsBlockedBy c.requires.blocked.0 p.indexed.items c.args.step.now c.args.obstacle.now) (sym c.plan.view_is) c.requires.blocked.1,
)

pub put_barrier-requires : goal.put_barrier-requires
put_barrier-requires c = (c.requires.blocked.1.by, c.requires.blocked.1.names)

pub returns-clause-queued : goal.returns-clause-queued
returns-clause-queued c = on_four c.put_barrier.result _ _ _ _ _
    (λ same more put is_set. set_queued c.barriers_stay.ensures c.args.plan.now c.put_barrier.new.plan c.args.step.now c.args.obstacle.now c.in-Some.barrier.way c.in-Some.barrier.item_id c.in-Some.barrier.barrier same more put is_set
    (subst (λ (p : PlanParts). MakesBarrierFor p.indexed c.args.step.now c.args.obstacle.now c.in-Some.barrier.way c.in-Some.barrier.item_id c.in-Some.barrier.barrier) c.plan.view_is c.in-Some.ensures))
    c.put_barrier.ensures.same c.put_barrier.ensures.more c.put_barrier.ensures.put c.put_barrier.ensures.set
