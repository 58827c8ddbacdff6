use Rattle.std.proofs.Common.{◌∷◌, subst}
use Rattle.planner.proofs.Passed.{more_answers}
use Rattle.planner.proofs.Tried.{first_found}
use Rattle.planner.proofs.trying.try_candidate.Goals as goal
use Rattle.queue_laws.specs.IndexedBarriers.{IsBarred}
use Rattle.step_queue.specs.Told.{candidate_told}
use Rattle.obstacles.specs.Blocking.{IsBlockedBy}
use Rattle.order_laws.specs.Edits.{Edit}
use Rattle.planner_state.specs.PlanParts.{PlanParts}
use Rattle.step_laws.specs.Free.{IsFree}
use Rattle.step_laws.specs.Steps.{IsStep}
use Rattle.next_step.specs.Named.{IsStepOf, NamesNone}

pub pass_none-requires-clause-none : goal.pass_none-requires-clause-none
pass_none-requires-clause-none g c = subst (λ (p : PlanParts). NamesNone c.args.source.now p.indexed c.args.candidate.now) c.plan.view_is (rw c.in_default.is at c.in_ok-step.ensures.none)

pub pass_barred-requires-clause-barred : goal.pass_barred-requires-clause-barred
pass_barred-requires-clause-barred g c = subst (λ (p : PlanParts). IsBarred p.indexed p.barriers c.in-Some.step) c.plan.view_is (c.is_barred.ensures.0 c.if-is_barred.true)

pub returns-in_ok-queue_again-in-None-clause-state : goal.returns-in_ok-queue_again-in-None-clause-state
returns-in_ok-queue_again-in-None-clause-state g c = c.in_ok-queue_again-in-None.ensures.state (g.O.Obstacles.answers c.obstacle_within.new.obstacles) c.args.source.now
    (more_answers c.answers_may_come.ensures c.barriers_stay.ensures (g.O.Obstacles.answers c.args.obstacles.now) (g.O.Obstacles.answers c.obstacle_within.new.obstacles) c.args.source.now c.args.plan.now (candidate_told c.args.candidate.now ∷ c.args.plan.now.candidates)
    c.in_ok-obstacle_within.ensures.asked c.requires.queued)

pub returns-in_ok-queue_again-in-None-clause-found : goal.returns-in_ok-queue_again-in-None-clause-found
returns-in_ok-queue_again-in-None-clause-found g c = first_found c.first_candidate_is_taken.ensures c.priorities_are_ordered.ensures (g.O.Obstacles.answers c.obstacle_within.new.obstacles) c.args.source.now c.args.plan.now c.args.candidate.now c.in-Some.step
    (more_answers c.answers_may_come.ensures c.barriers_stay.ensures (g.O.Obstacles.answers c.args.obstacles.now) (g.O.Obstacles.answers c.obstacle_within.new.obstacles) c.args.source.now c.args.plan.now (candidate_told c.args.candidate.now ∷ c.args.plan.now.candidates)
    c.in_ok-obstacle_within.ensures.asked c.requires.queued) c.requires.first
    (subst (λ (p : PlanParts). IsStepOf c.args.source.now p.indexed c.args.candidate.now c.in-Some.step) c.plan.view_is (rw c.in-Some.is at c.in_ok-step.ensures.some))
    (subst (λ (p : PlanParts). (e : Edit) → IsStep p.indexed.items c.in-Some.step e → IsFree (g.O.Obstacles.answers c.obstacle_within.new.obstacles) p.indexed.items e) c.plan.view_is (rw c.in-None.is at c.in_ok-obstacle_within.ensures.free))

pub returns-in_ok-pass_blocked-in-Some-2-clause-state : goal.returns-in_ok-pass_blocked-in-Some-2-clause-state
returns-in_ok-pass_blocked-in-Some-2-clause-state g c = c.in_ok-pass_blocked-in-Some-2.ensures.state (g.O.Obstacles.answers c.obstacle_within.new.obstacles)
    (subst (λ (p : PlanParts). IsBlockedBy (g.O.Obstacles.answers c.obstacle_within.new.obstacles) p.indexed.items c.in-Some.step c.in-Some-2.obstacle) c.plan.view_is (rw c.in-Some-2.is at c.in_ok-obstacle_within.ensures.blocked))
    (more_answers c.answers_may_come.ensures c.barriers_stay.ensures (g.O.Obstacles.answers c.args.obstacles.now) (g.O.Obstacles.answers c.obstacle_within.new.obstacles) c.args.source.now c.args.plan.now (candidate_told c.args.candidate.now ∷ c.args.plan.now.candidates)
    c.in_ok-obstacle_within.ensures.asked c.requires.queued)
