use Rattle.std.proofs.Common.{sym, ◌∙◌}
use Rattle.hint_clauses.proofs.Divided.{run_here, run_out, run_room}
use Rattle.hint_clauses.proofs.hints.add_run.Goals as goal
use Rattle.hint_clauses.specs.Chains.{row_at}

pub returns-then-not-begins_run : goal.returns-then-not-begins_run
returns-then-not-begins_run c =
    run_out c.args.count c.args.selector.now.links c.args.selector.now.chain (row_at c.args.g c.args.row) c.args.p c.args.f.now (sym c.begins_run.ensures ∙ c.if-not-begins_run.true)

pub add_rests-requires-clause-room : goal.add_rests-requires-clause-room
add_rests-requires-clause-room c =
    run_room c.args.count c.args.selector.now.links c.args.selector.now.chain (row_at c.args.g c.args.row) c.args.p _ _ _ c.args.f.now (sym c.begins_run.ensures ∙ c.if-not-begins_run.false)
    (c.deref.ensures.value ∙ c.in_ok-rests.ensures.value) c.in_ok-number.ensures.value c.requires.room

pub returns : goal.returns
returns c =
    run_here c.args.count c.args.selector.now.links c.args.selector.now.chain (row_at c.args.g c.args.row) c.args.p _ _ c.args.f.now _ (sym c.begins_run.ensures ∙ c.if-not-begins_run.false)
    (c.deref.ensures.value ∙ c.in_ok-rests.ensures.value) c.in_ok-number.ensures.value c.in_ok-add_rests.ensures
