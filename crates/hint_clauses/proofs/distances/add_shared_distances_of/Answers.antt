use Rattle.std.proofs.Common.{ap, arith, sym, ◌+◌, ◌∙◌}
use Rattle.hint_clauses.proofs.Distanced.{shared_step_grows}
use Rattle.hint_clauses.proofs.distances.add_shared_distances_of.Goals as goal
use Rattle.hint_clauses.specs.Gaps.{shared_step}
use Rattle.sibling_clauses.proofs.ForCallers.{step_room, steps_more, steps_stay}

pub add_shared_distance-requires-clause-in_range : goal.add_shared_distance-requires-clause-in_range
add_shared_distance-requires-clause-in_range c =
    let more = steps_stay c.loop-q.q (shared_step c.args.pair.now c.args.p) c.args.f.now c.loop-q.f (shared_step_grows c.args.pair.now c.args.p) c.loop-q.invariant in
    omega (arith, more, c.requires.in_range)

pub add_shared_distance-requires-clause-room : goal.add_shared_distance-requires-clause-room
add_shared_distance-requires-clause-room c =
    step_room c.loop-q.q (c.args.pair.now.numbering.right + 1) _ (shared_step c.args.pair.now c.args.p) c.args.f.now c.loop-q.f (shared_step_grows c.args.pair.now c.args.p) c.loop-q-test.true c.loop-q.invariant c.requires.room

pub loop-q-preserved : goal.loop-q-preserved
loop-q-preserved c =
    c.in_ok-add_shared_distance.ensures ∙ ap (shared_step c.args.pair.now c.args.p c.loop-q.q) c.loop-q.invariant ∙ sym (steps_more c.loop-q.q (shared_step c.args.pair.now c.args.p) c.args.f.now)
