-- A byte and what follows it, where something does.
use Rattle.std.proofs.Common.{ℕ, zero, suc, ◌<◌, ◌≤◌, ◌≡◌, refl, arith}
use Rattle.css_model.specs.Text.Units.{one_and}

pub one_and_le : (n : ℕ) → one_and n ≤ suc n
one_and_le zero = omega arith
one_and_le (suc n) = omega arith

pub one_and_some : (n : ℕ) → 0 < n → 0 < one_and n
one_and_some zero some = absurd (omega arith)
one_and_some (suc n) some = omega arith

pub some_one_and : (n : ℕ) → 0 < one_and n → 0 < n
some_one_and zero some = absurd (omega (arith, some))
some_one_and (suc n) some = omega arith

pub none_one_and : (n : ℕ) → one_and n ≡ 0 → n ≡ 0
none_one_and zero none = refl
none_one_and (suc n) none = absurd (omega (arith, none))

pub one_and_fits : (n m : ℕ) → one_and n ≤ suc m → n ≤ m
one_and_fits zero m fits = omega arith
one_and_fits (suc n) m fits = omega arith
