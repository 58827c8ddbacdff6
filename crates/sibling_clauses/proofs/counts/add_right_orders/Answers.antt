use Rattle.std.proofs.Common.{arith, ◌+◌}
use Rattle.sibling_clauses.proofs.Counting.{right_rows_room, right_rows_stay}
use Rattle.sibling_clauses.proofs.counts.add_right_orders.Goals as goal
use Rattle.formula_laws.specs.Formula.{names_of}

pub add_right_order_row-requires-clause-in_range : goal.add_right_order_row-requires-clause-in_range
add_right_order_row-requires-clause-in_range c =
    let more = right_rows_stay c.args.left.now c.args.right.now (names_of c.args.g.left c.args.g.right c.args.g.digits) c.args.g.right c.loop-i.i c.args.f.now c.loop-i.f c.loop-i.invariant in
    omega (arith, more, c.requires.in_range)

pub add_right_order_row-requires-clause-room : goal.add_right_order_row-requires-clause-room
add_right_order_row-requires-clause-room c =
    right_rows_room c.args.left.now c.args.right.now (names_of c.args.g.left c.args.g.right c.args.g.digits) c.args.g.right c.loop-i.i (c.args.g.left + 1) _ c.args.f.now c.loop-i.f c.loop-i-test.true c.loop-i.invariant c.requires.room
