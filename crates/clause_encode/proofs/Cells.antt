-- How many cells there are.
use Rattle.std.proofs.Common.{arith, ℕ, ◌*◌, ◌<◌, ◌≤◌}
use Rattle.std.proofs.Math.Nat.{mul-le-mul_right}

pub pairs_few : (i r : ℕ) → i < 12 → r < 12 → i * r ≤ 132
pairs_few i r hi hr = let a : i * r ≤ 11 * r = mul-le-mul_right r (let l : i ≤ 11 = omega arith in l) in omega arith
