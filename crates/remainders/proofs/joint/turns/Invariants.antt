use Rattle.std.proofs.Common.{◌%◌, ◌*◌, ◌-◌, ◌≡◌}
use Rattle.std.specs.Prelude.{◌==◌}
use Rattle.nth_positions.specs.Gaps.{first_passing}
use Rattle.remainders.proofs.joint.turns.Given as goal

abbrev pub invariant-loop-turns : goal.invariant-loop-turns
invariant-loop-turns l = first_passing (λ t. (l.a * t) % l.b == 0) l.turns (l.b - l.turns) ≡ first_passing (λ t. (l.a * t) % l.b == 0) 1 (l.b - 1)
