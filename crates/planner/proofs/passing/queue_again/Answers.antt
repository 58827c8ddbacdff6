use Rattle.std.proofs.Common.{◌∷◌, sym, subst}
use Rattle.std.specs.List.{Contains}
use Rattle.planner.proofs.Passed.{again_state}
use Rattle.planner.proofs.Results.{on_ok}
use Rattle.planner.proofs.passing.queue_again.Goals as goal
use Rattle.step_queue.specs.Told.{candidate_told}
use Rattle.planner_state.specs.PlanParts.{PlanParts}
use Rattle.planner_state.specs.State.{IsQueuedBy}

pub returns-clause-state : goal.returns-clause-state
returns-clause-state c = on_ok c.add.result (Contains c.add.new.self (candidate_told c.args.candidate.now)) _
    (λ added answers source queued. again_state c.barriers_stay.ensures source _ c.args.candidate.now answers (subst (λ (p : PlanParts). IsQueuedBy answers source p (candidate_told c.args.candidate.now ∷ p.candidates)) (sym c.plan.view_is) queued) c.add.new.self c.add.ensures.stay added)
    c.add.ensures.added
