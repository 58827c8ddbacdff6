use Rattle.std.proofs.Common.{ap, arith, sym, ◌+◌, ◌∙◌}
use Rattle.formula_laws.specs.Hints.{with_run_rests}
use Rattle.hint_clauses.proofs.Divided.{run_rests_grow}
use Rattle.hint_clauses.proofs.hints.add_runs.Goals as goal
use Rattle.hint_clauses.specs.Chains.{row_at}
use Rattle.sibling_clauses.proofs.ForCallers.{step_room, steps_more, steps_stay}

pub add_run-requires-clause-in_range : goal.add_run-requires-clause-in_range
add_run-requires-clause-in_range c =
    let step = with_run_rests c.args.count c.args.selector.now.links c.args.selector.now.chain (row_at c.args.g c.args.row) in
    let more = steps_stay c.loop-p.p step c.args.f.now c.loop-p.f (run_rests_grow c.args.count c.args.selector.now.links c.args.selector.now.chain (row_at c.args.g c.args.row)) c.loop-p.invariant in
    omega (arith, more, c.requires.in_range)

pub add_run-requires-clause-room : goal.add_run-requires-clause-room
add_run-requires-clause-room c =
    step_room c.loop-p.p (c.args.last + 1) _ (with_run_rests c.args.count c.args.selector.now.links c.args.selector.now.chain (row_at c.args.g c.args.row)) c.args.f.now c.loop-p.f
    (run_rests_grow c.args.count c.args.selector.now.links c.args.selector.now.chain (row_at c.args.g c.args.row)) c.loop-p-test.true c.loop-p.invariant c.requires.room

pub loop-p-preserved : goal.loop-p-preserved
loop-p-preserved c =
    c.in_ok-add_run.ensures ∙ ap (with_run_rests c.args.count c.args.selector.now.links c.args.selector.now.chain (row_at c.args.g c.args.row) c.loop-p.p) c.loop-p.invariant
    ∙ sym (steps_more c.loop-p.p (with_run_rests c.args.count c.args.selector.now.links c.args.selector.now.chain (row_at c.args.g c.args.row)) c.args.f.now)
