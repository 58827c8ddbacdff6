use Rattle.std.proofs.Common.{◌-◌, ◌∙◌}
use Rattle.hint_clauses.proofs.Sharing.{shared_few, shared_short}
use Rattle.hint_clauses.proofs.runs.cell_rest.Goals as goal

pub joint_rest-requires-clause-short : goal.joint_rest-requires-clause-short
joint_rest-requires-clause-short c =
    shared_short c.args.runs.now.count (c.args.i - c.args.runs.now.left) (c.args.j - c.args.runs.now.right) c.args.runs.now.left_rests.items c.args.runs.now.right_rests.items _
    (c.deref.ensures.value ∙ c.in_ok-rests.ensures) c.requires.left c.requires.right

pub joint_rest-requires-clause-small : goal.joint_rest-requires-clause-small
joint_rest-requires-clause-small c =
    shared_few c.args.runs.now.count (c.args.i - c.args.runs.now.left) (c.args.j - c.args.runs.now.right) c.args.runs.now.left_rests.items c.args.runs.now.right_rests.items _
    (c.deref.ensures.value ∙ c.in_ok-rests.ensures) c.requires.few
