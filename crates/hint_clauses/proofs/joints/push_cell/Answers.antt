use Rattle.std.proofs.Common.{subst, sym, ℕ, ◌-◌, ◌∙◌, ◌≤◌}
use Rattle.std.specs.Prelude.{if◌then◌else◌}
use Rattle.hint_clauses.proofs.Known.{joint_here, joint_out}
use Rattle.hint_clauses.proofs.joints.push_cell.Goals as goal
use Rattle.remainders.specs.Remainders.{most_joint}

pub returns-then-not-is_cell : goal.returns-then-not-is_cell
returns-then-not-is_cell c =
    joint_out c.args.runs.now.count c.args.left.now c.args.right.now c.args.runs.now.left c.args.runs.now.right (if c.args.of_right then c.args.j - c.args.runs.now.right else 0)
    (if c.args.of_right then c.args.i - c.args.runs.now.left else 0) c.args.i c.args.j c.args.joints.now.items (sym c.is_cell.ensures.value ∙ c.if-not-is_cell.true)

pub cell_rest-requires-clause-left : goal.cell_rest-requires-clause-left
cell_rest-requires-clause-left c = c.requires.runs.left_short

pub cell_rest-requires-clause-right : goal.cell_rest-requires-clause-right
cell_rest-requires-clause-right c = c.requires.runs.right_short

pub cell_rest-requires-clause-few : goal.cell_rest-requires-clause-few
cell_rest-requires-clause-few c = subst (λ (n : ℕ). n ≤ most_joint) c.requires.runs.step c.requires.few

pub returns : goal.returns
returns c =
    joint_here c.args.runs.now.count c.args.left.now c.args.right.now c.args.runs.now.left c.args.runs.now.right (if c.args.of_right then c.args.j - c.args.runs.now.right else 0)
    (if c.args.of_right then c.args.i - c.args.runs.now.left else 0) c.args.i c.args.j c.args.runs.now.numbering.right c.args.runs.now.step _ c.args.runs.now.left_rests.items c.args.runs.now.right_rests.items _ c.args.joints.now.items _
    (sym c.is_cell.ensures.value ∙ c.if-not-is_cell.false) c.requires.runs.left c.requires.runs.right c.requires.runs.step c.in_ok-rest.ensures c.requires.right.links
    (rw (c.together-node.ensures.value, c.places-to_right.ensures, c.places-to_left.ensures)) c.in_ok-push.ensures.items
