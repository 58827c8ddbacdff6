use Rattle.std.proofs.Common.{arith, ◌∙◌, ◌≤◌}
use Rattle.sibling_clauses.proofs.Growing.{test_grows}
use Rattle.sibling_clauses.proofs.Tested.{keeps_item, test_room, test_step}
use Rattle.sibling_clauses.proofs.positions.add_positions.Goals as goal

pub add_test-requires-clause-test : goal.add_test-requires-clause-test
add_test-requires-clause-test c = keeps_item c.args.simples.now c.loop-simple.simple-index c.simple-item.result c.requires.tests c.loop-simple-test.true c.simple-item.is

pub add_test-requires-clause-room : goal.add_test-requires-clause-room
add_test-requires-clause-room c =
    test_room c.args.last c.args.root c.args.child c.args.before.now c.args.after.now c.args.simples.now c.loop-simple.simple-index _ c.simple-item.result c.loop-simple.f _ c.loop-simple-test.true c.simple-item.is c.loop-simple.invariant.left c.requires.room

pub loop-simple-preserved : goal.loop-simple-preserved
loop-simple-preserved c = record {
  left = test_step c.args.last c.args.root c.args.child c.args.before.now c.args.after.now c.args.simples.now c.loop-simple.simple-index c.simple-item.result c.loop-simple.f c.add_test.new.f c.loop-simple-test.true c.simple-item.is c.in_ok-add_test.ensures ∙ c.loop-simple.invariant.left;
  grows =
      let g = c.loop-simple.invariant.grows in
      let m : c.loop-simple.f.vars ≤ c.add_test.new.f.vars = rw c.in_ok-add_test.ensures (test_grows _ _ _ _ _ _ _ c.loop-simple.f) in
      omega (arith, g, m);
}
