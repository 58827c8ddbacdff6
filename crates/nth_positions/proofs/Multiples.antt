-- Multiples of a signed step: what the quotient and the remainder say of them.
use Rattle.std.proofs.Common.{◌≡◌, ℕ, zero, suc, ◌*◌, ◌%◌, ◌/◌, ◌<◌, ◌≤◌, ℤ, pos, negsuc, ◌+ℤ◌, ◌-ℤ◌, ◌*ℤ◌, ◌≤ℤ◌, neg_ℤ, refl, sym, ap, ◌∙◌, subst, arith, w64, to_z, of_z, ◌^◌}
use Rattle.std.specs.Prelude.{unsigned_abs, int_div, int_rem, int_le, FitsSigned, Bool, true, false, T}
use Rattle.std.proofs.lemmas.Int.{ints, quot-rem, quot_is, to_z-of_z, fits_signed_from_abs}
use Rattle.std.proofs.Math.Nat.{mul-mod_right, zero-mod, div-le_self, lt_of_le_of_lt}
use lib.IntN.{*ℤ_comm, +ℤ_idr}
use lib.Signed.{mag_rem}

-- z is n steps where its quotient is n and nothing remains
pub steps_from_quotient : (z d : ℤ) → int_rem z d ≡ pos 0 → pos 0 ≤ℤ int_div z d → (n : ℕ) × (z ≡ d *ℤ pos n)
steps_from_quotient z d r q = at (int_div z d) refl
  where
    whole : int_div z d *ℤ d ≡ z
    whole = sym (+ℤ_idr _) ∙ ap (λ y. int_div z d *ℤ d +ℤ y) (sym r) ∙ quot-rem z d

    at : (y : ℤ) → int_div z d ≡ y → (n : ℕ) × (z ≡ d *ℤ pos n)
    at (pos n) e = (n, sym whole ∙ ap (λ y. y *ℤ d) e ∙ *ℤ_comm (pos n) d)
    at (negsuc n) e = absurd (omega (arith, ints))

rem_of_neg : (m : ℕ) (d : ℤ) → int_rem (neg_ℤ (pos m)) d ≡ neg_ℤ (pos (m % unsigned_abs d))
rem_of_neg zero d = ap pos (zero-mod (unsigned_abs d)) ∙ sym (ap (λ m. neg_ℤ (pos m)) (zero-mod (unsigned_abs d)))
rem_of_neg (suc m) d = refl

-- n steps leave nothing
pub rem_of_steps : (d : ℤ) (n : ℕ) → int_rem (d *ℤ pos n) d ≡ pos 0
rem_of_steps (pos a) n = ap pos (mul-mod_right a n)
rem_of_steps (negsuc a) n = rem_of_neg (suc a * n) (negsuc a) ∙ ap (λ m. neg_ℤ (pos m)) (mul-mod_right (suc a) n)

quot_of_neg : (m a : ℕ) → pos 0 ≤ℤ int_div (neg_ℤ (pos m)) (negsuc a)
quot_of_neg zero a = omega (arith, ints)
quot_of_neg (suc m) a = omega (arith, ints)

-- and their quotient is not negative
pub quotient_of_steps : (d : ℤ) (n : ℕ) → pos 0 ≤ℤ int_div (d *ℤ pos n) d
quotient_of_steps (pos a) n = omega (arith, ints)
quotient_of_steps (negsuc a) n = quot_of_neg (suc a * n) a

abs_of_neg : (m : ℕ) → unsigned_abs (neg_ℤ (pos m)) ≡ m
abs_of_neg zero = refl
abs_of_neg (suc m) = refl

-- a quotient is no larger than what was divided
pub quotient_small : (z d : ℤ) → unsigned_abs (int_div z d) ≤ unsigned_abs z
quotient_small (pos a) (pos b) = div-le_self a b
quotient_small (pos a) (negsuc b) = rw (abs_of_neg (a / suc b)) (div-le_self a (suc b))
quotient_small (negsuc a) (pos b) = rw (abs_of_neg (suc a / b)) (div-le_self (suc a) b)
quotient_small (negsuc a) (negsuc b) = div-le_self (suc a) (suc b)

remainder_fits : (z d : ℤ) → FitsSigned w64 z → FitsSigned w64 (int_rem z d)
remainder_fits z d f = record { sfits = lt_of_le_of_lt (mag_rem z d) f.sfits }

quotient_fits : (z d : ℤ) → unsigned_abs z < 2 ^ 40 → FitsSigned w64 (int_div z d)
quotient_fits z d h = fits_signed_from_abs w64 (int_div z d) (let le : unsigned_abs (int_div z d) ≤ unsigned_abs z = quotient_small z d in omega arith)

zero_from_bits : (z : ℤ) → FitsSigned w64 z → of_z w64 z ≡ 0 → z ≡ pos 0
zero_from_bits (pos n) f e = ap pos e
zero_from_bits (negsuc n) f e = let h : n < 2 ^ 63 = f.sfits in absurd (omega arith)

-- what the tests of a remainder and of a quotient of 64 bits say
pub remainder_tested : (z d : ℤ) → FitsSigned w64 z → FitsSigned w64 d → of_z w64 (int_rem (to_z w64 (of_z w64 z)) (to_z w64 (of_z w64 d))) ≡ of_z w64 (int_rem z d)
remainder_tested z d f g = ap (λ y. of_z w64 (int_rem y (to_z w64 (of_z w64 d)))) (to_z-of_z w64 z f) ∙ ap (λ y. of_z w64 (int_rem z y)) (to_z-of_z w64 d g)

pub no_remainder : (z d : ℤ) → FitsSigned w64 z → FitsSigned w64 d → of_z w64 (int_rem (to_z w64 (of_z w64 z)) (to_z w64 (of_z w64 d))) ≡ 0 → int_rem z d ≡ pos 0
no_remainder z d f g e = zero_from_bits (int_rem z d) (remainder_fits z d f) (sym (remainder_tested z d f g) ∙ e)

pub quotient_tested : (z d : ℤ) → FitsSigned w64 z → FitsSigned w64 d → unsigned_abs z < 2 ^ 40 → to_z w64 (of_z w64 (int_div (to_z w64 (of_z w64 z)) (to_z w64 (of_z w64 d)))) ≡ int_div z d
quotient_tested z d f g h = quot_is w64 z d f g (quotient_fits z d h)

true_from_T : (b : Bool) → T b → b ≡ true
true_from_T true h = refl
true_from_T false h = absurd h

-- an order as a test, and back
pub le_from_true : {a b : ℤ} → int_le a b ≡ true → a ≤ℤ b
le_from_true h = record { le = subst T (sym h) tt }

pub true_from_le : {a b : ℤ} → a ≤ℤ b → int_le a b ≡ true
true_from_le {a} {b} h = true_from_T (int_le a b) h.le

-- to move the offset to the other side
pub distance_is : (k b m : ℤ) → k -ℤ b ≡ m → k ≡ m +ℤ b
distance_is k b m h = omega (arith, ints)

pub is_distance : (k b m : ℤ) → k ≡ m +ℤ b → k -ℤ b ≡ m
is_distance k b m h = omega (arith, ints)
