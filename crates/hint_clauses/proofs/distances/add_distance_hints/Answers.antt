use Rattle.std.proofs.Common.{arith, ◌∙◌}
use Rattle.hint_clauses.proofs.Distanced.{both_distance_rooms, both_distances}
use Rattle.hint_clauses.proofs.distances.add_distance_hints.Goals as goal

pub add_distances-requires-clause-pair : goal.add_distances-requires-clause-pair
add_distances-requires-clause-pair c = record {
  small = c.requires.small;
  left = c.requires.left;
  right = c.requires.right;
  left_tests = c.requires.left_tests;
  right_tests = c.requires.right_tests;
}

pub add_distances-requires-clause-room : goal.add_distances-requires-clause-room
add_distances-requires-clause-room c = (both_distance_rooms c.args.left.now c.args.right.now c.args.g c.args.f.now _ c.requires.room).befores

pub add_distances-requires-2-clause-pair : goal.add_distances-requires-2-clause-pair
add_distances-requires-2-clause-pair c = record {
  small = c.requires.small;
  left = c.requires.left;
  right = c.requires.right;
  left_tests = c.requires.left_tests;
  right_tests = c.requires.right_tests;
}

pub add_distances-requires-2-clause-in_range : goal.add_distances-requires-2-clause-in_range
add_distances-requires-2-clause-in_range c =
    let r = both_distance_rooms c.args.left.now c.args.right.now c.args.g c.args.f.now _ c.requires.room in
    rw c.in_ok-add_distances.ensures (omega (arith, r.befores_more, c.requires.in_range))

pub add_distances-requires-2-clause-room : goal.add_distances-requires-2-clause-room
add_distances-requires-2-clause-room c =
    let r = both_distance_rooms c.args.left.now c.args.right.now c.args.g c.args.f.now _ c.requires.room in
    rw c.in_ok-add_distances.ensures r.behinds

pub returns : goal.returns
returns c = c.in_ok-add_distances-2.ensures ∙ rw c.in_ok-add_distances.ensures (both_distances c.args.left.now c.args.right.now c.args.g c.args.f.now)
