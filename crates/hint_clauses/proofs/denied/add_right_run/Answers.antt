use Rattle.std.proofs.Common.{subst, sym, ◌^◌, ◌∙◌, ◌≤◌}
use Rattle.cnf.specs.Cnf.{Cnf}
use Rattle.hint_clauses.proofs.Unmet.{right_is, right_run_out}
use Rattle.hint_clauses.proofs.denied.add_right_run.Goals as goal

pub returns-then-not-begins_run : goal.returns-then-not-begins_run
returns-then-not-begins_run c = right_run_out c.args.g c.args.count c.args.left.now c.args.right.now c.args.q c.args.f.now (sym c.begins_run.ensures ∙ c.if-not-begins_run.true)

pub add_refused_run-requires-clause-room : goal.add_refused_run-requires-clause-room
add_refused_run-requires-clause-room c =
    subst (λ (h : Cnf). h.vars ≤ 2 ^ 30)
    (right_is c.args.g c.args.count c.args.left.now c.args.right.now c.args.q c.row_of-row.result c.right_root-root.result _ c.args.f.now (sym c.begins_run.ensures ∙ c.if-not-begins_run.false)
    c.row_of-row.ensures.value c.right_root-root.ensures.value c.in_ok-joints.ensures.value)
    c.requires.room

pub returns : goal.returns
returns c =
    c.in_ok-add_refused_run.ensures
    ∙ sym (right_is c.args.g c.args.count c.args.left.now c.args.right.now c.args.q c.row_of-row.result c.right_root-root.result _ c.args.f.now (sym c.begins_run.ensures ∙ c.if-not-begins_run.false)
    c.row_of-row.ensures.value c.right_root-root.ensures.value c.in_ok-joints.ensures.value)
