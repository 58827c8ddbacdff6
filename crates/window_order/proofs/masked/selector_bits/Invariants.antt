use Rattle.std.proofs.Common.{◌≡◌, length}
use Rattle.window_order.proofs.masked.selector_bits.Given as goal
use Rattle.window_order.specs.Standing.{with_bits}

abbrev pub invariant-rest : goal.invariant-rest
invariant-rest l = with_bits l.bits l.rest ≡ with_bits 0 l.initial.rest

abbrev pub decreases-rest : goal.decreases-rest
decreases-rest l = length l.rest
