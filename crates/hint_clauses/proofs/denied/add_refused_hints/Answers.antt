use Rattle.std.proofs.Common.{arith, ◌∙◌}
use Rattle.hint_clauses.proofs.Unmet.{both_refused, both_rooms}
use Rattle.hint_clauses.proofs.denied.add_refused_hints.Goals as goal

pub add_refused-requires-clause-room : goal.add_refused-requires-clause-room
add_refused-requires-clause-room c = (both_rooms c.args.left.now c.args.right.now c.args.g c.args.f.now _ c.requires.room).befores

pub add_refused-requires-2-clause-in_range : goal.add_refused-requires-2-clause-in_range
add_refused-requires-2-clause-in_range c =
    let r = both_rooms c.args.left.now c.args.right.now c.args.g c.args.f.now _ c.requires.room in
    rw c.in_ok-add_refused.ensures (omega (arith, r.befores_more, c.requires.in_range))

pub add_refused-requires-2-clause-room : goal.add_refused-requires-2-clause-room
add_refused-requires-2-clause-room c =
    let r = both_rooms c.args.left.now c.args.right.now c.args.g c.args.f.now _ c.requires.room in
    rw c.in_ok-add_refused.ensures r.behinds

pub returns : goal.returns
returns c = c.in_ok-add_refused-2.ensures ∙ rw c.in_ok-add_refused.ensures (both_refused c.args.left.now c.args.right.now c.args.g c.args.f.now)
