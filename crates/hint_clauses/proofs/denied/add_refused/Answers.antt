use Rattle.std.proofs.Common.{arith, ◌∙◌}
use Rattle.hint_clauses.proofs.Unmet.{refused_rooms, refused_whole}
use Rattle.hint_clauses.proofs.denied.add_refused.Goals as goal

pub add_left_refused-requires-clause-room : goal.add_left_refused-requires-clause-room
add_left_refused-requires-clause-room c = (refused_rooms c.args.left.now c.args.right.now c.args.g c.args.count c.args.f.now _ c.requires.left c.requires.right c.requires.room).left

pub add_right_refused-requires-clause-in_range : goal.add_right_refused-requires-clause-in_range
add_right_refused-requires-clause-in_range c =
    let r = refused_rooms c.args.left.now c.args.right.now c.args.g c.args.count c.args.f.now _ c.requires.left c.requires.right c.requires.room in
    rw c.in_ok-add_left_refused.ensures (omega (arith, r.left_more, c.requires.in_range))

pub add_right_refused-requires-clause-room : goal.add_right_refused-requires-clause-room
add_right_refused-requires-clause-room c =
    let r = refused_rooms c.args.left.now c.args.right.now c.args.g c.args.count c.args.f.now _ c.requires.left c.requires.right c.requires.room in
    rw c.in_ok-add_left_refused.ensures r.right

pub returns : goal.returns
returns c = c.in_ok-add_right_refused.ensures ∙ rw c.in_ok-add_left_refused.ensures (refused_whole c.args.left.now c.args.right.now c.args.g c.args.count c.args.f.now c.requires.left c.requires.right)
