use Rattle.std.proofs.Common.{subst, sym, ◌^◌, ◌∙◌, ◌≤◌}
use Rattle.cnf.specs.Cnf.{Cnf}
use Rattle.hint_clauses.proofs.Unmet.{left_is, left_run_out}
use Rattle.hint_clauses.proofs.denied.add_left_run.Goals as goal

pub returns-then-not-begins_run : goal.returns-then-not-begins_run
returns-then-not-begins_run c = left_run_out c.args.g c.args.count c.args.left.now c.args.right.now c.args.p c.args.f.now (sym c.begins_run.ensures ∙ c.if-not-begins_run.true)

pub add_refused_run-requires-clause-room : goal.add_refused_run-requires-clause-room
add_refused_run-requires-clause-room c =
    subst (λ (h : Cnf). h.vars ≤ 2 ^ 30)
    (left_is c.args.g c.args.count c.args.left.now c.args.right.now c.args.p c.row_of-row.result c.left_root-root.result _ c.args.f.now (sym c.begins_run.ensures ∙ c.if-not-begins_run.false)
    c.row_of-row.ensures.value c.left_root-root.ensures.value c.in_ok-joints.ensures.value)
    c.requires.room

pub returns : goal.returns
returns c =
    c.in_ok-add_refused_run.ensures
    ∙ sym (left_is c.args.g c.args.count c.args.left.now c.args.right.now c.args.p c.row_of-row.result c.left_root-root.result _ c.args.f.now (sym c.begins_run.ensures ∙ c.if-not-begins_run.false)
    c.row_of-row.ensures.value c.left_root-root.ensures.value c.in_ok-joints.ensures.value)
