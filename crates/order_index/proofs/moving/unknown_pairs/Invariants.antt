use Rattle.std.proofs.Common.{◌≡◌}
use Rattle.std.specs.List.{All}
use Rattle.order_index.proofs.moving.unknown_pairs.Given as goal
use Rattle.window_order.specs.Places.{unknown}

abbrev pub invariant-loop : goal.invariant-loop
invariant-loop l = All (λ k. k ≡ unknown) l.list.items
