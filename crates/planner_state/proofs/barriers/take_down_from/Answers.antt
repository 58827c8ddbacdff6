use Rattle.std.proofs.Common.{arith}
use Rattle.planner_state.proofs.TakenDown.{all_below, more_below, none_below}
use Rattle.planner_state.proofs.barriers.take_down_from.Goals as goal

pub loop-item_id-init : goal.loop-item_id-init
loop-item_id-init c = none_below c.args.first c.args.last c.args.barriers.now.items

pub loop-item_id-preserved : goal.loop-item_id-preserved
loop-item_id-preserved c = more_below c.args.first c.args.last c.args.barriers.now.items c.loop-item_id.barriers.items c.take_down_if.new.barriers.items c.loop-item_id.item_id c.loop-item_id.invariant c.take_down_if.ensures

pub returns : goal.returns
returns c = all_below c.args.first c.args.last c.args.barriers.now.items c.loop-item_id.barriers.items c.loop-item_id.item_id (omega arith) c.loop-item_id.invariant
