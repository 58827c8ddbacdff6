use Rattle.planner.proofs.Barriers.{makes_barrier, moved_there, other_there, place_within}
use Rattle.planner.proofs.barring.barrier_between.Goals as goal

pub is_barrier-requires-clause-moved_there : goal.is_barrier-requires-clause-moved_there
is_barrier-requires-clause-moved_there c = moved_there c.requires.blocked.0 c.args.indexed.now.items c.args.step.now c.args.obstacle.now c.requires.blocked.1

pub is_barrier-requires-clause-other_there : goal.is_barrier-requires-clause-other_there
is_barrier-requires-clause-other_there c = other_there c.requires.blocked.0 c.args.indexed.now.items c.args.step.now c.args.obstacle.now c.args.other.now c.requires.pair c.requires.blocked.1

pub mark-order_key-requires : goal.mark-order_key-requires
mark-order_key-requires c =
    let w = other_there c.requires.blocked.0 c.args.indexed.now.items c.args.step.now c.args.obstacle.now c.args.other.now c.requires.pair c.requires.blocked.1 in
    place_within c.args.indexed.now.items c.args.other.now w.0 w.1

pub mark-item_id-requires : goal.mark-item_id-requires
mark-item_id-requires c =
    let w = moved_there c.requires.blocked.0 c.args.indexed.now.items c.args.step.now c.args.obstacle.now c.requires.blocked.1 in
    place_within c.args.indexed.now.items c.args.obstacle.now.moved w.0 w.1

pub returns : goal.returns
returns c = makes_barrier c.args.indexed.now c.args.step.now c.args.way c.args.obstacle.now c.args.other.now c.mark-item_id.result c.mark-order_key.result c.requires.step_of c.requires.pair
    (c.is_barrier.ensures c.if-not-is_barrier.false) c.mark-item_id.ensures c.mark-order_key.ensures
