use Rattle.std.proofs.Common.{arith, ◌+◌, ◌∙◌, ap, sym}
use Rattle.sibling_clauses.proofs.Counting.{steps_more}
use Rattle.sibling_clauses.proofs.Testing.{right_tests_room, right_tests_stay}
use Rattle.sibling_clauses.proofs.asked.add_right_tests.Goals as goal
use Rattle.sibling_clauses.specs.Rows.{right_tests}

pub add_right_test-requires-clause-in_range : goal.add_right_test-requires-clause-in_range
add_right_test-requires-clause-in_range c =
    let more = right_tests_stay c.args.g c.args.chain.now c.loop-j.j c.args.f.now c.loop-j.f c.loop-j.invariant in
    omega (arith, more, c.requires.in_range)

pub add_right_test-requires-clause-room : goal.add_right_test-requires-clause-room
add_right_test-requires-clause-room c =
    right_tests_room c.args.g c.args.chain.now c.loop-j.j (c.args.g.right + 1) _ c.args.f.now c.loop-j.f c.loop-j-test.true c.loop-j.invariant c.requires.room

pub loop-j-preserved : goal.loop-j-preserved
loop-j-preserved c =
    c.in_ok-add_right_test.ensures ∙ ap (right_tests c.args.g c.args.chain.now c.loop-j.j) c.loop-j.invariant
    ∙ sym (steps_more c.loop-j.j (right_tests c.args.g c.args.chain.now) c.args.f.now)
