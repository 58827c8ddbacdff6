use Rattle.std.proofs.Common.{sym, subst}
use Rattle.planner.proofs.Passed.{none_state}
use Rattle.planner.proofs.Results.{on_three}
use Rattle.planner.proofs.passing.pass_none.Goals as goal
use Rattle.planner_state.specs.State.{IsState}

pub returns-clause-state : goal.returns-clause-state
returns-clause-state c = on_three c.follow.result _ _ _ _
    (λ same stay followed answers queued. subst (IsState answers c.args.source.now) (sym same)
    (none_state c.barriers_stay.ensures c.args.source.now c.args.plan.now c.args.candidate.now answers queued c.follow.new.plan.candidates stay c.watched_is_known.ensures c.barred_may_be_watched.ensures c.first_priority_is_first.ensures followed
    c.none_is_known.ensures c.requires.none)) c.follow.ensures.same c.follow.ensures.stay c.follow.ensures.followed
