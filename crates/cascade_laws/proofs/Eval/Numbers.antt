-- Sums of numbers.
use Rattle.std.proofs.Common.{◌≡◌, ℕ, suc, ◌+◌, arith}

pub none_first : (n : ℕ) → 0 + n ≡ n
none_first n = omega arith

pub none_last : (n : ℕ) → n ≡ n + 0
none_last n = omega arith

pub one_first : (m n : ℕ) → suc m + n ≡ suc (m + n)
one_first m n = omega arith

pub moved : (m n : ℕ) → m + suc n ≡ suc m + n
moved m n = omega arith

pub joined : (k m n : ℕ) → (k + m) + n ≡ k + (m + n)
joined k m n = omega arith
