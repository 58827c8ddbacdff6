use Rattle.line_match.proofs.Same.{known_decides}
use Rattle.std.proofs.Common.{arith}
use Rattle.line_match.proofs.passing.is_same.Goals as goal

pub returns : goal.returns
returns c = grind (arith, known_decides c.args.a.now c.args.b.now, c.eq.ensures)
