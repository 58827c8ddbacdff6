use Rattle.std.proofs.Common.{arith, ◌+◌, ◌∙◌, ap, sym}
use Rattle.sibling_clauses.proofs.Counting.{steps_more}
use Rattle.sibling_clauses.proofs.Testing.{left_tests_room, left_tests_stay}
use Rattle.sibling_clauses.proofs.asked.add_left_tests.Goals as goal
use Rattle.sibling_clauses.specs.Rows.{left_tests}

pub add_left_test-requires-clause-in_range : goal.add_left_test-requires-clause-in_range
add_left_test-requires-clause-in_range c =
    let more = left_tests_stay c.args.g c.args.chain.now c.loop-i.i c.args.f.now c.loop-i.f c.loop-i.invariant in
    omega (arith, more, c.requires.in_range)

pub add_left_test-requires-clause-room : goal.add_left_test-requires-clause-room
add_left_test-requires-clause-room c =
    left_tests_room c.args.g c.args.chain.now c.loop-i.i (c.args.g.left + 1) _ c.args.f.now c.loop-i.f c.loop-i-test.true c.loop-i.invariant c.requires.room

pub loop-i-preserved : goal.loop-i-preserved
loop-i-preserved c =
    c.in_ok-add_left_test.ensures ∙ ap (left_tests c.args.g c.args.chain.now c.loop-i.i) c.loop-i.invariant
    ∙ sym (steps_more c.loop-i.i (left_tests c.args.g c.args.chain.now) c.args.f.now)
