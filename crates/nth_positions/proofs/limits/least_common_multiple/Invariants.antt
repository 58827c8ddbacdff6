-- No multiple so far is a multiple of b.
use Rattle.std.proofs.Common.{◌≡◌, ℕ, ◌*◌, ◌%◌, ◌<◌, ◌≤◌}
use Rattle.nth_positions.proofs.limits.least_common_multiple.Given as goal

abbrev pub invariant-loop-turns : goal.invariant-loop-turns
invariant-loop-turns l = (k : ℕ) → 1 ≤ k → k < l.turns → (l.a * k) % l.b ≡ 0 → ⊥
