use Rattle.std.proofs.Common.{arith}
use Rattle.sibling_clauses.proofs.Counting.{right_room, right_stays}
use Rattle.sibling_clauses.proofs.counts.add_right_order_row.Goals as goal
use Rattle.formula_laws.specs.Formula.{names_of}

pub add_right_order-requires-clause-in_range : goal.add_right_order-requires-clause-in_range
add_right_order-requires-clause-in_range c =
    let more = right_stays c.args.left.now c.args.right.now (names_of c.args.g.left c.args.g.right c.args.g.digits) c.args.i c.loop-j.j c.args.f.now c.loop-j.f c.loop-j.invariant in
    omega (arith, more, c.requires.in_range)

pub add_right_order-requires-clause-room : goal.add_right_order-requires-clause-room
add_right_order-requires-clause-room c =
    right_room c.args.left.now c.args.right.now (names_of c.args.g.left c.args.g.right c.args.g.digits) c.args.i c.loop-j.j (c.args.g.right) _ c.args.f.now c.loop-j.f c.loop-j-test.true c.loop-j.invariant c.requires.room
