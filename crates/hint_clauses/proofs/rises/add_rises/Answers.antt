use Rattle.std.proofs.Common.{arith, length}
use Rattle.hint_clauses.proofs.Rising.{rises_room, rises_stay}
use Rattle.hint_clauses.proofs.rises.add_rises.Goals as goal
use Rattle.hint_clauses.specs.Chains.{row_at}

pub add_rise-requires-clause-in_range : goal.add_rise-requires-clause-in_range
add_rise-requires-clause-in_range c =
    let more = rises_stay c.args.links.now (row_at c.args.g c.args.row) c.loop-k.k c.args.f.now c.loop-k.f c.loop-k.invariant in
    omega (arith, more, c.requires.in_range)

pub add_rise-requires-clause-room : goal.add_rise-requires-clause-room
add_rise-requires-clause-room c =
    rises_room c.args.links.now (row_at c.args.g c.args.row) c.loop-k.k (length c.args.links.now) _ c.args.f.now c.loop-k.f c.loop-k-test.true c.loop-k.invariant c.requires.room
