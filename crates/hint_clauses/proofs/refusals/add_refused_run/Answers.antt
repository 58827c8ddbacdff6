use Rattle.std.proofs.Common.{ap, arith, sym, ◌+◌, ◌∙◌}
use Rattle.hint_clauses.proofs.Failing.{compound_grows}
use Rattle.hint_clauses.proofs.refusals.add_refused_run.Goals as goal
use Rattle.hint_clauses.specs.Refusals.{compound_step}
use Rattle.sibling_clauses.proofs.ForCallers.{step_room, steps_more, steps_stay}

pub add_refused_compound-requires-clause-in_range : goal.add_refused_compound-requires-clause-in_range
add_refused_compound-requires-clause-in_range c =
    let more = steps_stay c.loop-k.k (compound_step c.args.selector.now c.args.run.now) c.args.f.now c.loop-k.f (compound_grows c.args.selector.now c.args.run.now) c.loop-k.invariant in
    omega (arith, more, c.requires.in_range)

pub add_refused_compound-requires-clause-room : goal.add_refused_compound-requires-clause-room
add_refused_compound-requires-clause-room c =
    step_room c.loop-k.k (c.args.last + 1) _ (compound_step c.args.selector.now c.args.run.now) c.args.f.now c.loop-k.f (compound_grows c.args.selector.now c.args.run.now) c.loop-k-test.true c.loop-k.invariant c.requires.room

pub loop-k-preserved : goal.loop-k-preserved
loop-k-preserved c =
    c.in_ok-add_refused_compound.ensures ∙ ap (compound_step c.args.selector.now c.args.run.now c.loop-k.k) c.loop-k.invariant
    ∙ sym (steps_more c.loop-k.k (compound_step c.args.selector.now c.args.run.now) c.args.f.now)
