use Rattle.std.proofs.Common.{rules}
use Rattle.std.proofs.lemmas.List.{nil_from_length}
use Rattle.std.specs.List.{Contains}
use Rattle.step_queue.specs.Told.{candidate_told}
use Rattle.planner_state.proofs.Members.{one_more, all_done}
use Rattle.planner_state.proofs.reactivating.reactivate_all.Goals as goal

pub rest-preserved : goal.rest-preserved
rest-preserved c = record {
  stay = λ h among. c.in_ok-reactivate.ensures.stay h (c.rest.invariant.stay h among);
  active = one_more (λ l. Contains c.rest.queue (candidate_told l)) (λ l. Contains c.reactivate.new.queue (candidate_told l)) c.args.candidates.now c.rest.rest.now c.in-Some.behind.now c.in-Some.first.now (search rules)
      (λ l among. c.in_ok-reactivate.ensures.stay (candidate_told l) among) c.in_ok-reactivate.ensures.active c.rest.invariant.active;
}

pub returns-clause-active : goal.returns-clause-active
returns-clause-active c = all_done (λ l. Contains c.rest.queue (candidate_told l)) c.args.candidates.now c.rest.rest.now (nil_from_length c.rest.rest.now (rw c.in_default.is at c.split_first.ensures.cases)) c.rest.invariant.active
