use Rattle.std.proofs.Common.{ap, arith, sym, ◌∙◌}
use Rattle.hint_clauses.proofs.Distanced.{own_step_grows}
use Rattle.hint_clauses.proofs.distances.add_own_distances_to.Goals as goal
use Rattle.hint_clauses.specs.Gaps.{own_step}
use Rattle.sibling_clauses.proofs.ForCallers.{step_room, steps_more, steps_stay}

pub add_own_distance-requires-clause-in_range : goal.add_own_distance-requires-clause-in_range
add_own_distance-requires-clause-in_range c =
    let more = steps_stay c.loop-p.p (own_step c.args.pair.now c.args.right c.args.q) c.args.f.now c.loop-p.f (own_step_grows c.args.pair.now c.args.right c.args.q) c.loop-p.invariant in
    omega (arith, more, c.requires.in_range)

pub add_own_distance-requires-clause-room : goal.add_own_distance-requires-clause-room
add_own_distance-requires-clause-room c =
    step_room c.loop-p.p c.args.q _ (own_step c.args.pair.now c.args.right c.args.q) c.args.f.now c.loop-p.f (own_step_grows c.args.pair.now c.args.right c.args.q) c.loop-p-test.true c.loop-p.invariant c.requires.room

pub loop-p-preserved : goal.loop-p-preserved
loop-p-preserved c =
    c.in_ok-add_own_distance.ensures ∙ ap (own_step c.args.pair.now c.args.right c.args.q c.loop-p.p) c.loop-p.invariant ∙ sym (steps_more c.loop-p.p (own_step c.args.pair.now c.args.right c.args.q) c.args.f.now)
