use Rattle.std.proofs.Common.{ap, arith, sym, ◌+◌, ◌∙◌}
use Rattle.hint_clauses.proofs.Unmet.{right_run_grows}
use Rattle.hint_clauses.proofs.denied.add_right_refused.Goals as goal
use Rattle.hint_clauses.specs.Refusals.{right_run_step}
use Rattle.sibling_clauses.proofs.ForCallers.{step_room, steps_more, steps_stay}

pub add_right_run-requires-clause-in_range : goal.add_right_run-requires-clause-in_range
add_right_run-requires-clause-in_range c =
    let more = steps_stay c.loop-q.q (right_run_step c.args.g c.args.count c.args.left.now c.args.right.now) c.args.f.now c.loop-q.f (right_run_grows c.args.g c.args.count c.args.left.now c.args.right.now) c.loop-q.invariant in
    omega (arith, more, c.requires.in_range)

pub add_right_run-requires-clause-room : goal.add_right_run-requires-clause-room
add_right_run-requires-clause-room c =
    step_room c.loop-q.q (c.args.g.right + 1) _ (right_run_step c.args.g c.args.count c.args.left.now c.args.right.now) c.args.f.now c.loop-q.f
    (right_run_grows c.args.g c.args.count c.args.left.now c.args.right.now) c.loop-q-test.true c.loop-q.invariant c.requires.room

pub loop-q-preserved : goal.loop-q-preserved
loop-q-preserved c =
    c.in_ok-add_right_run.ensures ∙ ap (right_run_step c.args.g c.args.count c.args.left.now c.args.right.now c.loop-q.q) c.loop-q.invariant
    ∙ sym (steps_more c.loop-q.q (right_run_step c.args.g c.args.count c.args.left.now c.args.right.now) c.args.f.now)
