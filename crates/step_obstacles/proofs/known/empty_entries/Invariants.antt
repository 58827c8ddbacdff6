use Rattle.std.proofs.Common.{◌≡◌}
use Rattle.std.specs.List.{All}
use Rattle.step_obstacles.proofs.known.empty_entries.Given as goal
use Rattle.window_order.specs.Places.{unknown}

abbrev pub invariant-loop : goal.invariant-loop
invariant-loop l = All (λ e. e.standing ≡ unknown) l.list.items
