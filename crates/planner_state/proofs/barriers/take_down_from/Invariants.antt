use Rattle.std.proofs.Common.{◌<◌}
use Rattle.planner_state.specs.Barriers.{IsFromOther, SomeStay}
use Rattle.planner_state.proofs.barriers.take_down_from.Given as goal

-- those under item ids so far stand from other order keys on
abbrev pub invariant-loop-item_id : goal.invariant-loop-item_id
invariant-loop-item_id l = SomeStay l.fn.barriers.items l.barriers.items (λ b order_key. b < l.item_id → IsFromOther l.first l.last b order_key)
