use Rattle.std.proofs.Common.{◌≡◌, ◌+◌, ◌<◌, List, false, sym, ◌∙◌, subst}
use Rattle.std.specs.Prelude.{IfSome}
use Rattle.std.specs.List.{Contains}
use Rattle.planner.proofs.Followed.{is_followed, others_later, others_candidate}
use Rattle.planner.proofs.Results.{on_ok}
use Rattle.planner.proofs.following.follow.Goals as goal
use Rattle.step_queue.specs.declared.candidate.Candidate.{Candidate}
use Rattle.step_queue.specs.Told.{alone, candidate_told}
use Rattle.step_queue.specs.Weights.{is_alone, room, total, weight}
use Rattle.plan_laws.specs.Cover.{IsSooner}
use Rattle.planner_state.specs.PlanParts.{PlanParts}
use Rattle.next_step.specs.Looking.{FoundParts}

pub add_others-requires-clause-others_all : goal.add_others-requires-clause-others_all
add_others-requires-clause-others_all c = subst (λ (f : FoundParts). IfSome f.others (λ n. is_alone (candidate_told n).scope ≡ false)) (sym c.found.view_is)
    (others_candidate c.args.source.now c.args.plan.now c.args.candidate.now c.in_ok-found.field-0.found (sym c.is_alone.ensures ∙ c.if-is_alone.false) c.in_ok-found.ensures.follows)

pub add_others-requires-clause-later : goal.add_others-requires-clause-later
add_others-requires-clause-later c = subst (λ (f : FoundParts). IfSome f.others (λ n. IsSooner (candidate_told c.args.candidate.now).priority (candidate_told n).priority)) (sym c.found.view_is)
    (others_later c.args.source.now c.args.plan.now c.args.candidate.now c.in_ok-found.field-0.found c.in_ok-found.ensures.follows)

pub returns-clause-followed : goal.returns-clause-followed
returns-clause-followed c = on_ok c.add_others.result (IfSome c.found.inside.others (λ n. Contains c.add_others.new.queue (candidate_told n))) _
    (λ added watched barred. is_followed c.args.source.now c.args.plan.now c.args.candidate.now c.in_ok-found.field-0.found c.args.plan.now.candidates c.add_others.new.queue watched c.in_ok-found.ensures.follows
    (λ l among. c.add_others.ensures.stay l (c.queue_all_alone.ensures.stay l (subst (λ (p : PlanParts). Contains p.candidates l) (sym (c.plan.view_is ∙ c.note_seen.ensures)) among)))
    (λ l among. c.add_others.ensures.stay (alone l) (c.in_ok-queue_all_alone.ensures.added l
    (subst (λ (xs : List Candidate). Contains xs l) (sym c.deref.ensures.value) (subst (λ (f : FoundParts). Contains f.candidates l) (sym c.found.view_is) among))))
    (subst (λ (f : FoundParts). IfSome f.others (λ n. Contains c.add_others.new.queue (candidate_told n))) c.found.view_is added) barred) c.add_others.ensures.added

pub returns-clause-stay : goal.returns-clause-stay
returns-clause-stay c = on_ok c.add_others.result (total c.add_others.new.queue + room < total c.queue_all_alone.new.queue + weight (candidate_told c.args.candidate.now)) _
    (λ less l among. c.add_others.ensures.stay l (c.queue_all_alone.ensures.stay l (subst (λ (p : PlanParts). Contains p.candidates l) (sym (c.plan.view_is ∙ c.note_seen.ensures)) among))) c.add_others.ensures.less
