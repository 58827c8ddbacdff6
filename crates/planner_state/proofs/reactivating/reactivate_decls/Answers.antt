use Rattle.std.proofs.Common.{◌≡◌, ℕ, rules, ◌∷◌, subst}
use Rattle.std.proofs.lemmas.List.{nil_from_length}
use Rattle.step_queue.specs.Told.{candidate_told}
use Rattle.planner_state.specs.Reactivating as spec
use Rattle.planner_state.proofs.Members.{one_more, all_done, only_one}
use Rattle.planner_state.proofs.reactivating.reactivate_decls.Goals as goal

pub rest-preserved : goal.rest-preserved
rest-preserved c = let is : c.rest.rest.now ≡ c.in-Some.first.now ∷ c.in-Some.behind.now = search rules in record {
  stay = λ h among. c.in_ok-reactivate_pair.ensures.stay h (c.rest.invariant.stay h among);
  active = one_more (spec.IsActiveUnder c.args.watched.now c.rest.queue c.args.selector) (spec.IsActiveUnder c.args.watched.now c.reactivate_pair.new.queue c.args.selector) c.args.decls.now c.rest.rest.now c.in-Some.behind.now c.in-Some.first.now is
      (λ d old l among. c.in_ok-reactivate_pair.ensures.stay (candidate_told l) (old l among)) c.in_ok-reactivate_pair.ensures.active c.rest.invariant.active;
}

pub returns-clause-active : goal.returns-clause-active
returns-clause-active c = λ s d is among. subst (λ (t : ℕ). spec.IsActiveUnder c.args.watched.now c.rest.queue t d) (only_one c.args.selector s is)
    (all_done (spec.IsActiveUnder c.args.watched.now c.rest.queue c.args.selector) c.args.decls.now c.rest.rest.now (nil_from_length c.rest.rest.now (rw c.in_default.is at c.split_first.ensures.cases)) c.rest.invariant.active d among)
