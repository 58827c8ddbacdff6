use Rattle.std.proofs.Common.{List, sym, ap, subst}
use Rattle.std.specs.List.{Contains}
use Rattle.planner.proofs.Results.{on_ok}
use Rattle.planner.proofs.barring.put_barrier.Goals as goal
use Rattle.planner.specs.Barring.{HasMovesEntries}
use Rattle.step_queue.specs.declared.watch_list.Entry.{Entry}
use Rattle.planner_state.specs.PlanParts.{PlanParts}

pub returns-clause-more : goal.returns-clause-more
returns-clause-more c = on_ok c.set.result _ _
    (λ raised. subst (λ (es : List Entry). (x : Entry) → Contains c.args.plan.now.entries x → Contains es x) (sym (ap (λ (p : PlanParts). p.entries) c.plan.view_is)) c.in_ok-put_all.ensures.more) c.set.ensures

pub returns-clause-put : goal.returns-clause-put
returns-clause-put c = on_ok c.set.result _ _
    (λ raised. subst (λ (es : List Entry). HasMovesEntries c.args.plan.now.indexed.items es c.args.obstacle.now c.args.barrier.now.way c.args.barrier.now.item_id) (sym (ap (λ (p : PlanParts). p.entries) c.plan.view_is)) c.in_ok-put_all.ensures.put) c.set.ensures
