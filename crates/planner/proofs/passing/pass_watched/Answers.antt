use Rattle.std.proofs.Common.{sym, subst}
use Rattle.planner.proofs.Passed.{watch_state}
use Rattle.planner.proofs.Results.{on_three}
use Rattle.planner.proofs.passing.pass_watched.Goals as goal
use Rattle.planner_state.specs.State.{IsIndexed}

pub follow-requires : goal.follow-requires
follow-requires c = subst (IsIndexed c.args.source.now) (sym c.in_ok-put_watched.ensures.same)
    (record { plannable = c.requires.indexed.plannable; marked = c.requires.indexed.marked; covered = c.requires.indexed.covered; homes = c.requires.indexed.homes; weighed = c.requires.indexed.weighed })

pub returns-clause-state : goal.returns-clause-state
returns-clause-state c = on_three c.follow.result _ _ _ _
    (λ same stay followed answers blocked queued. watch_state c.barriers_stay.ensures c.watched_is_known.ensures c.barred_may_be_watched.ensures c.first_priority_is_first.ensures c.blocked_is_known.ensures c.args.source.now c.args.plan.now
    c.put_watched.new.plan c.follow.new.plan c.args.candidate.now c.args.step.now c.args.obstacle.now
    c.in_ok-put_watched.ensures.same same c.requires.names c.in_ok-put_watched.ensures.more c.in_ok-put_watched.ensures.put stay followed answers blocked queued) c.follow.ensures.same c.follow.ensures.stay c.follow.ensures.followed
