use Rattle.std.proofs.Common.{ap, arith, ◌∙◌}
use Rattle.sibling_clauses.proofs.WholeTests.{left_part_room, left_part_stays, tests_whole}
use Rattle.sibling_clauses.proofs.asked.add_tests.Goals as goal

pub add_left_tests-requires-clause-room : goal.add_left_tests-requires-clause-room
add_left_tests-requires-clause-room c = rw c.chain_of.ensures (left_part_room c.args.left.now c.args.right.now c.args.g _ c.args.f.now c.requires.left c.requires.right c.requires.room)

pub add_right_tests-requires-clause-in_range : goal.add_right_tests-requires-clause-in_range
add_right_tests-requires-clause-in_range c =
    rw (c.in_ok-add_left_tests.ensures, c.chain_of.ensures) (let more = left_part_stays c.args.g c.args.left.now c.args.f.now in omega (arith, more, c.requires.in_range))

pub add_right_tests-requires-clause-room : goal.add_right_tests-requires-clause-room
add_right_tests-requires-clause-room c =
    rw (c.in_ok-add_left_tests.ensures, c.chain_of.ensures, c.chain_of-2.ensures) (let all = ap (λ h. h.vars) (tests_whole c.args.left.now c.args.right.now c.args.g c.args.f.now c.requires.left c.requires.right) in omega (arith, all, c.requires.room))

pub returns : goal.returns
returns c =
    c.in_ok-add_right_tests.ensures
    ∙ rw (c.in_ok-add_left_tests.ensures, c.chain_of.ensures, c.chain_of-2.ensures) (tests_whole c.args.left.now c.args.right.now c.args.g c.args.f.now c.requires.left c.requires.right)
