use Rattle.std.proofs.Common.{◌≡◌, ◌≤◌, ℕ, List, Some, length, sym, subst}
use Rattle.std.specs.Prelude.{IfOk, slice_get}
use Rattle.planner.proofs.Followed.{order_key_of_owner}
use Rattle.planner.proofs.Results.{ok_three}
use Rattle.planner.proofs.following.next_of.Goals as goal
use Rattle.planner.specs.Following.{Follows}
use Rattle.step_queue.specs.Weights.{room}
use Rattle.planner_state.specs.PlanParts.{PlanParts}
use Rattle.planner_state.specs.State.{IsIndexed}
use Rattle.step_laws.specs.declared.step.Step.{Step}
use Rattle.next_step.specs.Looking.{AreLater, Covers}

pub next_candidates-requires-clause-at : goal.next_candidates-requires-clause-at
next_candidates-requires-clause-at c = order_key_of_owner _ c.args.source.now c.args.candidate.now.owner c.home_of-at.result (subst (IsIndexed c.args.source.now) (sym c.plan.view_is) c.requires)
    (λ order_key under. c.home_of-at.ensures order_key (subst (λ (xs : List ℕ). slice_get xs c.args.candidate.now.owner ≡ Some order_key) (sym c.deref.ensures.value) under))

pub next_candidates-requires-clause-view : goal.next_candidates-requires-clause-view
next_candidates-requires-clause-view c =
    let indexed = subst (IsIndexed c.args.source.now) (sym c.plan.view_is) c.requires in
    record { plannable = indexed.plannable; cover = indexed.covered; weighed = indexed.weighed }

pub returns-clause-follows : goal.returns-clause-follows
returns-clause-follows c = subst (λ (p : PlanParts). IfOk c.next_candidates.result (λ l. Follows c.args.source.now p c.args.candidate.now l.found)) c.plan.view_is
    (ok_three c.next_candidates.result (λ l. AreLater c.args.source.now c.plan.inside.indexed c.args.candidate.now l.found)
    (λ l. (k : Step) → Covers c.args.source.now c.plan.inside.indexed c.plan.inside.barriers c.args.candidate.now l.found k) (λ l. length l.found.candidates ≤ room) _
    (λ l later covers few. record { later = later; covers = covers; few = few }) c.next_candidates.ensures.later c.next_candidates.ensures.covers c.next_candidates.ensures.few)
