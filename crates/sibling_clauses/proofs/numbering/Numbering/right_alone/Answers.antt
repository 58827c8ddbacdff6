use Rattle.sibling_clauses.proofs.InRange.{node_in_range}
use Rattle.sibling_clauses.proofs.numbering.Numbering.right_alone.Goals as goal
use Rattle.grid_laws.specs.Grid.{right_alone}

pub returns-clause-in_range : goal.returns-clause-in_range
returns-clause-in_range c = λ v room. rw (c.positive.ensures, c.cell.ensures.value) (node_in_range v c.args.self.left c.args.self.right right_alone c.args.i c.args.j room c.requires.row c.requires.column)
