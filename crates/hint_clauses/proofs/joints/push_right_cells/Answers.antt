use Rattle.std.proofs.Common.{sym, ◌∙◌}
use Rattle.hint_clauses.proofs.Known.{right_here, right_unasked, right_unbegun, small_of}
use Rattle.hint_clauses.proofs.joints.push_right_cells.Goals as goal

pub returns-then-not-begins_run : goal.returns-then-not-begins_run
returns-then-not-begins_run c = right_unbegun c.args.count c.args.left.now c.args.right.now c.args.p c.args.q c.args.joints.now.items (sym c.begins_run.ensures ∙ c.if-not-begins_run.true)

pub returns-then-not-asked : goal.returns-then-not-asked
returns-then-not-asked c =
    right_unasked _ c.args.count c.args.left.now c.args.right.now c.args.p c.args.q _ c.args.joints.now.items
    (record { count = c.in_ok-runs.ensures.count; left = c.in_ok-runs.ensures.left; right = c.in_ok-runs.ensures.right; rows = rw c.in_ok-runs.ensures.numbering (sym c.requires.left.links); columns = rw c.in_ok-runs.ensures.numbering (sym c.requires.right.links); asked = c.in_ok-runs.ensures.asked })
    c.deref.ensures.value (sym c.is_joint-asked.ensures ∙ c.if-not-asked.true)

pub push_cells-requires-clause-few : goal.push_cells-requires-clause-few
push_cells-requires-clause-few c = small_of _ _ (sym c.is_joint-asked.ensures ∙ c.if-not-asked.false)

pub returns : goal.returns
returns c =
    right_here _ c.args.count c.args.left.now c.args.right.now c.args.p c.args.q _ c.args.joints.now.items _
    (record { count = c.in_ok-runs.ensures.count; left = c.in_ok-runs.ensures.left; right = c.in_ok-runs.ensures.right; rows = rw c.in_ok-runs.ensures.numbering (sym c.requires.left.links); columns = rw c.in_ok-runs.ensures.numbering (sym c.requires.right.links); asked = c.in_ok-runs.ensures.asked })
    (sym c.begins_run.ensures ∙ c.if-not-begins_run.false) c.deref.ensures.value (sym c.is_joint-asked.ensures ∙ c.if-not-asked.false) c.in_ok-push_cells.ensures
