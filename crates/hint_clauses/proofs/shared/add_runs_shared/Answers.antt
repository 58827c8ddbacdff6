use Rattle.std.proofs.Common.{subst, sym, ◌^◌, ◌∙◌, ◌≤◌}
use Rattle.cnf.specs.Cnf.{Cnf}
use Rattle.hint_clauses.proofs.Sharing.{far_out, shared_is, unasked_out}
use Rattle.hint_clauses.proofs.shared.add_runs_shared.Goals as goal
use Rattle.hint_clauses.specs.Chains.{owns_at}

pub returns-then-not-are_asked : goal.returns-then-not-are_asked
returns-then-not-are_asked c =
    unasked_out c.args.left.now c.args.right.now (owns_at c.args.runs.now.numbering c.args.runs.now.count) c.args.runs.now.left c.args.runs.now.right c.args.runs.now.left_rests.items c.args.runs.now.right_rests.items c.args.f.now
    c.requires.runs.left c.requires.runs.right (sym c.are_asked.ensures ∙ c.if-not-are_asked.true)

pub returns-then-runs-gt-MOST_JOINT : goal.returns-then-runs-gt-MOST_JOINT
returns-then-runs-gt-MOST_JOINT c =
    far_out c.args.left.now c.args.right.now (owns_at c.args.runs.now.numbering c.args.runs.now.count) c.args.runs.now.left c.args.runs.now.right c.args.runs.now.step c.args.runs.now.left_rests.items c.args.runs.now.right_rests.items
    c.args.f.now c.requires.runs.left c.requires.runs.right c.requires.runs.step c.if-runs-gt-MOST_JOINT.true

pub add_divided-requires-clause-room : goal.add_divided-requires-clause-room
add_divided-requires-clause-room c =
    subst (λ (h : Cnf). h.vars ≤ 2 ^ 30)
    (shared_is c.args.left.now c.args.right.now (owns_at c.args.runs.now.numbering c.args.runs.now.count) c.args.runs.now.left c.args.runs.now.right c.args.runs.now.step c.args.runs.now.left_rests.items c.args.runs.now.right_rests.items
    c.args.f.now c.requires.left_begins c.requires.right_begins c.requires.runs.left c.requires.runs.right (sym c.are_asked.ensures ∙ c.if-not-are_asked.false) c.requires.runs.step c.if-runs-gt-MOST_JOINT.false)
    c.requires.room

pub returns : goal.returns
returns c =
    c.in_ok-add_divided.ensures
    ∙ sym (shared_is c.args.left.now c.args.right.now (owns_at c.args.runs.now.numbering c.args.runs.now.count) c.args.runs.now.left c.args.runs.now.right c.args.runs.now.step c.args.runs.now.left_rests.items c.args.runs.now.right_rests.items
    c.args.f.now c.requires.left_begins c.requires.right_begins c.requires.runs.left c.requires.runs.right (sym c.are_asked.ensures ∙ c.if-not-are_asked.false) c.requires.runs.step c.if-runs-gt-MOST_JOINT.false)
