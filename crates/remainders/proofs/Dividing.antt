-- The greatest common divisor, division by division.
use Rattle.std.proofs.Common.{Bool, arith, false, refl, suc, sym, true, zero, ℕ, ◌%◌, ◌<◌, ◌≡◌}
use Rattle.std.proofs.Math.Nat.{mod-lt}
use Rattle.std.proofs.lemmas.Bool.{eqb-true, false≢true}
use Rattle.std.proofs.lemmas.Nat.Gcd.{IsGcd-from_mod, IsGcd-from_zero, same_from_IsGcd}
use Rattle.std.specs.Int.{IsGcd}
use Rattle.std.specs.Prelude.{if◌then◌else◌, ◌==◌}
use Rattle.remainders.specs.Divisors.{common_divisor, divisor_within}

some_of : (b : ℕ) → (b == 0) ≡ false → 0 < b
some_of zero e = absurd (false≢true (sym e))
some_of (suc n) e = omega arith

within_divides : (more a b : ℕ) → b < more → IsGcd a b (divisor_within more a b)
within_divides zero a b less = absurd (omega arith)
within_divides (suc more) a b less = by (b == 0) refl (λ some. within_divides more b (a % b) (let l = mod-lt a some in omega arith))
  where
    by : (t : Bool) → (b == 0) ≡ t → (0 < b → IsGcd b (a % b) (divisor_within more b (a % b))) → IsGcd a b (if t then a else divisor_within more b (a % b))
    by true e rest = IsGcd-from_zero a b (eqb-true b 0 e)
    by false e rest = IsGcd-from_mod a b (divisor_within more b (a % b)) (rest (some_of b e))

pub common_divides : (a b : ℕ) → IsGcd a b (common_divisor a b)
common_divides a b = within_divides (suc b) a b (omega arith)

pub divisor_end : (a b : ℕ) → b ≡ 0 → a ≡ common_divisor a b
divisor_end a b none = same_from_IsGcd a b a (common_divisor a b) (IsGcd-from_zero a b none) (common_divides a b)

pub divisor_step : (a b : ℕ) → common_divisor b (a % b) ≡ common_divisor a b
divisor_step a b = same_from_IsGcd a b (common_divisor b (a % b)) (common_divisor a b) (IsGcd-from_mod a b (common_divisor b (a % b)) (common_divides b (a % b))) (common_divides a b)
