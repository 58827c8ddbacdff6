use Rattle.std.proofs.Common.{ap, arith, sym, ◌+◌, ◌∙◌}
use Rattle.hint_clauses.proofs.Unmet.{left_run_grows}
use Rattle.hint_clauses.proofs.denied.add_left_refused.Goals as goal
use Rattle.hint_clauses.specs.Refusals.{left_run_step}
use Rattle.sibling_clauses.proofs.ForCallers.{step_room, steps_more, steps_stay}

pub add_left_run-requires-clause-in_range : goal.add_left_run-requires-clause-in_range
add_left_run-requires-clause-in_range c =
    let more = steps_stay c.loop-p.p (left_run_step c.args.g c.args.count c.args.left.now c.args.right.now) c.args.f.now c.loop-p.f (left_run_grows c.args.g c.args.count c.args.left.now c.args.right.now) c.loop-p.invariant in
    omega (arith, more, c.requires.in_range)

pub add_left_run-requires-clause-room : goal.add_left_run-requires-clause-room
add_left_run-requires-clause-room c =
    step_room c.loop-p.p (c.args.g.left + 1) _ (left_run_step c.args.g c.args.count c.args.left.now c.args.right.now) c.args.f.now c.loop-p.f
    (left_run_grows c.args.g c.args.count c.args.left.now c.args.right.now) c.loop-p-test.true c.loop-p.invariant c.requires.room

pub loop-p-preserved : goal.loop-p-preserved
loop-p-preserved c =
    c.in_ok-add_left_run.ensures ∙ ap (left_run_step c.args.g c.args.count c.args.left.now c.args.right.now c.loop-p.p) c.loop-p.invariant
    ∙ sym (steps_more c.loop-p.p (left_run_step c.args.g c.args.count c.args.left.now c.args.right.now) c.args.f.now)
