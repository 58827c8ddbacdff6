use Rattle.std.proofs.Common.{ap, arith, sym, ◌+◌, ◌∙◌}
use Rattle.formula_laws.specs.Hints.{with_shared}
use Rattle.hint_clauses.proofs.Sharing.{shared_grows}
use Rattle.hint_clauses.proofs.hints.add_run_pair_row.Goals as goal
use Rattle.hint_clauses.specs.Chains.{owns_at}
use Rattle.sibling_clauses.proofs.ForCallers.{step_room, steps_more, steps_stay}

pub add_shared-requires-clause-in_range : goal.add_shared-requires-clause-in_range
add_shared-requires-clause-in_range c =
    let more = steps_stay c.loop-q.q (with_shared c.args.left.now c.args.right.now (owns_at c.args.g c.args.count) c.args.p) c.args.f.now c.loop-q.f
    (shared_grows c.args.left.now c.args.right.now (owns_at c.args.g c.args.count) c.args.p) c.loop-q.invariant in
    omega (arith, more, c.requires.in_range)

pub add_shared-requires-clause-room : goal.add_shared-requires-clause-room
add_shared-requires-clause-room c =
    step_room c.loop-q.q (c.args.g.right + 1) _ (with_shared c.args.left.now c.args.right.now (owns_at c.args.g c.args.count) c.args.p) c.args.f.now c.loop-q.f
    (shared_grows c.args.left.now c.args.right.now (owns_at c.args.g c.args.count) c.args.p) c.loop-q-test.true c.loop-q.invariant c.requires.room

pub loop-q-preserved : goal.loop-q-preserved
loop-q-preserved c =
    c.in_ok-add_shared.ensures ∙ ap (with_shared c.args.left.now c.args.right.now (owns_at c.args.g c.args.count) c.args.p c.loop-q.q) c.loop-q.invariant
    ∙ sym (steps_more c.loop-q.q (with_shared c.args.left.now c.args.right.now (owns_at c.args.g c.args.count) c.args.p) c.args.f.now)
