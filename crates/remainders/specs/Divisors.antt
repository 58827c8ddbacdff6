-- The greatest common divisor of two numbers (own).
use Rattle.std.specs.Prelude.{ℕ, suc, zero, ◌%◌, ◌==◌, if◌then◌else◌}
use Rattle.std.specs.Int.{IsGcd}

-- by at most so many divisions
abbrev pub divisor_within : ℕ → ℕ → ℕ → ℕ
divisor_within zero a b = a
divisor_within (suc more) a b = if b == 0 then a else divisor_within more b (a % b)

-- the greatest common divisor
abbrev pub common_divisor : ℕ → ℕ → ℕ
common_divisor a b = divisor_within (suc b) a b

-- so it is
abbrev pub CommonDivisorsAreGreatest : Type 0
CommonDivisorsAreGreatest = (a b : ℕ) → IsGcd a b (common_divisor a b)
