use Rattle.std.proofs.Common.{rules}
use Rattle.overlap.proofs.Forced.{both_child}
use Rattle.overlap.proofs.clashing.go_together.Goals as goal

pub returns-in-Some-Child-Some-Child : goal.returns-in-Some-Child-Some-Child
returns-in-Some-Child-Some-Child c = λ _. both_child c.args.left.now c.args.right.now c.args.i (search rules) (search rules)
