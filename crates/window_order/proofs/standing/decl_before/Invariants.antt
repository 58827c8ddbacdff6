use Rattle.std.proofs.Common.{◌≡◌, length}
use Rattle.window_order.specs.Standing as standing
use Rattle.window_order.proofs.standing.decl_before.Given as goal

-- the first ones do not tell
abbrev pub invariant-rest : goal.invariant-rest
invariant-rest l = standing.decl_before l.rest l.first l.second ≡ standing.decl_before l.initial.rest l.first l.second

abbrev pub decreases-rest : goal.decreases-rest
decreases-rest l = length l.rest
