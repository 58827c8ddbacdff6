use Rattle.std.proofs.Common.{arith, ◌∙◌}
use Rattle.hint_clauses.proofs.Distanced.{distance_rooms, distances_whole}
use Rattle.hint_clauses.proofs.distances.add_distances.Goals as goal

pub add_own_distances-requires-clause-room : goal.add_own_distances-requires-clause-room
add_own_distances-requires-clause-room c = (distance_rooms c.args.pair.now c.args.f.now _ c.requires.pair c.requires.room).left

pub add_own_distances-requires-2-clause-in_range : goal.add_own_distances-requires-2-clause-in_range
add_own_distances-requires-2-clause-in_range c =
    let r = distance_rooms c.args.pair.now c.args.f.now _ c.requires.pair c.requires.room in
    rw c.in_ok-add_own_distances.ensures (omega (arith, r.left_more, c.requires.in_range))

pub add_own_distances-requires-2-clause-room : goal.add_own_distances-requires-2-clause-room
add_own_distances-requires-2-clause-room c =
    let r = distance_rooms c.args.pair.now c.args.f.now _ c.requires.pair c.requires.room in
    rw c.in_ok-add_own_distances.ensures r.right

pub add_shared_distances-requires-clause-in_range : goal.add_shared_distances-requires-clause-in_range
add_shared_distances-requires-clause-in_range c =
    let r = distance_rooms c.args.pair.now c.args.f.now _ c.requires.pair c.requires.room in
    rw (c.in_ok-add_own_distances-2.ensures, c.in_ok-add_own_distances.ensures) (omega (arith, r.right_more, c.requires.in_range))

pub add_shared_distances-requires-clause-room : goal.add_shared_distances-requires-clause-room
add_shared_distances-requires-clause-room c =
    let r = distance_rooms c.args.pair.now c.args.f.now _ c.requires.pair c.requires.room in
    rw (c.in_ok-add_own_distances-2.ensures, c.in_ok-add_own_distances.ensures) r.shared

pub returns : goal.returns
returns c = c.in_ok-add_shared_distances.ensures ∙ rw (c.in_ok-add_own_distances-2.ensures, c.in_ok-add_own_distances.ensures) (distances_whole c.args.pair.now c.args.f.now c.requires.pair)
