use Rattle.std.proofs.Common.{sym, subst}
use Rattle.planner.proofs.Results.{on_ok}
use Rattle.planner.proofs.passing.pass_blocked.Goals as goal
use Rattle.step_queue.specs.Told.{candidate_told}
use Rattle.obstacles.specs.Blocking.{IsBlockedBy}
use Rattle.planner_state.specs.PlanParts.{PlanParts}
use Rattle.planner_state.specs.State.{IsIndexed}

pub pass_watched-requires-clause-indexed : goal.pass_watched-requires-clause-indexed
pass_watched-requires-clause-indexed c = subst (IsIndexed c.args.source.now) (sym c.in_ok-set_barrier.ensures.same)
    (record { plannable = c.requires.indexed.plannable; marked = c.requires.indexed.marked; covered = c.requires.indexed.covered; homes = c.requires.indexed.homes; weighed = c.requires.indexed.weighed })

pub returns-clause-state : goal.returns-clause-state
returns-clause-state c = on_ok c.pass_watched.result _ _
    (λ state answers blocked queued. state answers (subst (λ (p : PlanParts). IsBlockedBy answers p.indexed.items c.args.step.now c.args.obstacle.now) (sym c.in_ok-set_barrier.ensures.same) blocked)
    (c.in_ok-set_barrier.ensures.queued answers c.args.source.now (candidate_told c.args.candidate.now) blocked queued)) c.pass_watched.ensures.state
