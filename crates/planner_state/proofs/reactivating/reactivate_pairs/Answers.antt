use Rattle.std.proofs.Common.{◌≡◌, ℕ, rules, ◌∷◌, []}
use Rattle.std.proofs.lemmas.List.{nil_from_length}
use Rattle.list_facts.proofs.Members.{Contains-here}
use Rattle.step_queue.specs.Told.{candidate_told}
use Rattle.planner_state.specs.Reactivating as spec
use Rattle.planner_state.proofs.Members.{one_more, all_done}
use Rattle.planner_state.proofs.reactivating.reactivate_pairs.Goals as goal

pub rest-preserved : goal.rest-preserved
rest-preserved c = let is : c.rest.rest.now ≡ c.in-Some.first.now ∷ c.in-Some.behind.now = search rules in record {
  stay = λ h among. c.in_ok-reactivate_decls.ensures.stay h (c.rest.invariant.stay h among);
  active = one_more (λ (s : ℕ). spec.AreActiveUnder c.args.watched.now c.rest.queue (s ∷ []) c.args.decls.now) (λ (s : ℕ). spec.AreActiveUnder c.args.watched.now c.reactivate_decls.new.queue (s ∷ []) c.args.decls.now)
      c.args.selectors.now c.rest.rest.now c.in-Some.behind.now c.in-Some.first.now is
      (λ s old t d is among l entry. c.in_ok-reactivate_decls.ensures.stay (candidate_told l) (old t d is among l entry)) c.in_ok-reactivate_decls.ensures.active c.rest.invariant.active;
}

pub returns-clause-active : goal.returns-clause-active
returns-clause-active c = λ s d is among. all_done (λ (s : ℕ). spec.AreActiveUnder c.args.watched.now c.rest.queue (s ∷ []) c.args.decls.now) c.args.selectors.now c.rest.rest.now
    (nil_from_length c.rest.rest.now (rw c.in_default.is at c.split_first.ensures.cases)) c.rest.invariant.active s is s d (Contains-here s []) among
