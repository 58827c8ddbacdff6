use Rattle.std.proofs.Common.{subst, sym, ℕ, ◌∙◌, ◌≤◌}
use Rattle.hint_clauses.proofs.Sharing.{cell_here, cell_out}
use Rattle.hint_clauses.proofs.shared.add_cell.Goals as goal
use Rattle.remainders.specs.Remainders.{most_joint}

pub returns-then-not-is_cell : goal.returns-then-not-is_cell
returns-then-not-is_cell c =
    cell_out c.args.runs.now.count c.args.left.now c.args.right.now c.args.runs.now.left c.args.runs.now.right c.args.i c.args.j c.args.remainder.now c.args.f.now (sym c.is_cell.ensures.value ∙ c.if-not-is_cell.true)

pub cell_rest-requires-clause-left : goal.cell_rest-requires-clause-left
cell_rest-requires-clause-left c = c.requires.runs.left_short

pub cell_rest-requires-clause-right : goal.cell_rest-requires-clause-right
cell_rest-requires-clause-right c = c.requires.runs.right_short

pub cell_rest-requires-clause-few : goal.cell_rest-requires-clause-few
cell_rest-requires-clause-few c = subst (λ (n : ℕ). n ≤ most_joint) c.requires.runs.step c.requires.few

pub returns : goal.returns
returns c =
    cell_here c.args.runs.now.count c.args.left.now c.args.right.now c.args.runs.now.left c.args.runs.now.right c.args.i c.args.j c.args.runs.now.numbering.right c.args.remainder.now c.args.runs.now.left_rests.items
    c.args.runs.now.right_rests.items _ _ c.args.f.now _ (sym c.is_cell.ensures.value ∙ c.if-not-is_cell.false) c.requires.runs.left c.requires.runs.right c.in_ok-rest.ensures c.together-node.ensures.value c.requires.right.links
    c.in_ok-add_rest_if.ensures
