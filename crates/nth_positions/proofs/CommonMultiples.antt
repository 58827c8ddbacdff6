-- Least common multiples: of two numbers, found among the multiples of the first, and of the steps of a list.
use Rattle.std.proofs.Common.{◌≡◌, ℕ, zero, suc, ◌+◌, ◌-◌, ◌*◌, ◌/◌, ◌%◌, ◌<◌, ◌≤◌, max, Bool, true, false, ◌&&◌, ◌||◌, List, [], ◌∷◌, ◌++◌, refl, sym, ap, subst, ◌∙◌, arith, cond, ◌^◌, add-one, leb-false, ℤ, pos, negsuc, w32, of_z}
use Rattle.std.specs.Prelude.{◌==◌, nat_le, unsigned_abs, FitsSigned, Contains}
use Rattle.std.specs.Int.{◌∣◌}
use Rattle.std.proofs.lemmas.Nat.Gcd.{dvd_of_mod-eq-zero, mod-eq-zero_of_dvd, dvd_trans}
use Rattle.std.proofs.Math.Nat.{dvd-mul_right, mul-div_cancel', div-add-mod, mul-dvd-mul_left, mod-lt, dvd-add_iff_right, dvd-mul_right_of_dvd, mul-le-mul, dvd-mul_left, one-dvd, le_of_dvd, dvd-mod_iff, pow-le-pow_right, mul-le-mul_left, pow-suc}
use Rattle.std.proofs.lemmas.Bool.{false≢true}
use Rattle.std.proofs.lemmas.Bool.Decides.{nat_tests}
use Rattle.std.proofs.lemmas.List.Elements.{All-contains}
use Rattle.std.proofs.lemmas.List.Sums.{AllPass-from_list_all}
use Rattle.std.proofs.lemmas.List.Recursion.{and_push}
use Rattle.css_model.specs.declared.position.AnB.{AnB}
use Rattle.nth_positions.specs.Gaps.{IsLeastCommonMultiple, is_common_multiple, product_of_steps, period_of}
use Rattle.nth_positions.proofs.FirstPassing.{first_passing_is, IsFirst, first_passing_finds}

nothing_left : (r : ℕ) → (1 ≤ r → ⊥) → r ≡ 0
nothing_left zero h = refl
nothing_left (suc r) h = absurd (h (omega arith))

product_positive : (a t : ℕ) → 0 < a → 0 < t → 0 < a * t
product_positive a t p q = mul-le-mul p q

-- a · t is the least common multiple of a and b where t is the first of 1, 2, .. at which b divides it
pub first_multiple : (a b t : ℕ) → 0 < a → 0 < t → (a * t) % b ≡ 0 → ((k : ℕ) → 1 ≤ k → k < t → (a * k) % b ≡ 0 → ⊥) → IsLeastCommonMultiple a b (a * t)
first_multiple a b t pa pt d none = (product_positive a t pa pt, dvd-mul_right a t, whole, λ k p q. subst (λ (n : ℕ). a * t ∣ n) (mul-div_cancel' a p) (mul-dvd-mul_left t a (turns (k / a) (subst (λ (n : ℕ). b ∣ n) (sym (mul-div_cancel' a p)) q))))
  where
    whole : b ∣ a * t
    whole = dvd_of_mod-eq-zero b d

    turns : (j : ℕ) → b ∣ a * j → t ∣ j
    turns j q = dvd_of_mod-eq-zero t (nothing_left (j % t) (λ l. none (j % t) l (mod-lt j pt) (mod-eq-zero_of_dvd b left)))
      where
        parted : a * j ≡ (a * t) * (j / t) + a * (j % t)
        parted = let e : t * (j / t) + j % t ≡ j = div-add-mod j t in ap (λ n. a * n) (sym e) ∙ omega arith

        left : b ∣ a * (j % t)
        left = (dvd-add_iff_right b (dvd-mul_right_of_dvd b whole (j / t))).1 (subst (λ (n : ℕ). b ∣ n) parted q)

-- ---- the steps of a list

passes_at_zero : (s k : ℕ) → s ≡ 0 → ((s == 0) || (k % s == 0)) ≡ true
passes_at_zero s k e = grind (arith, nat_tests)

passes_at_multiple : (s k : ℕ) → s ∣ k → ((s == 0) || (k % s == 0)) ≡ true
passes_at_multiple s k d = let e : k % s ≡ 0 = mod-eq-zero_of_dvd s d in grind (arith, nat_tests)

multiple_from_pass : (s k : ℕ) → 0 < s → ((s == 0) || (k % s == 0)) ≡ true → s ∣ k
multiple_from_pass s k p t = dvd_of_mod-eq-zero s (grind (arith, nat_tests))

both_true : (a b : Bool) → a ≡ true → b ≡ true → (a && b) ≡ true
both_true a b p q = rw p q

first_true : (a b : Bool) → (a && b) ≡ true → a ≡ true
first_true true b h = refl
first_true false b h = h

second_true : (a b : Bool) → (a && b) ≡ true → b ≡ true
second_true true b h = h
second_true false b h = absurd (false≢true h)

-- what a common multiple divides is one
common_multiple_along : (parts : List AnB) (m k : ℕ) → m ∣ k → is_common_multiple parts m ≡ true → is_common_multiple parts k ≡ true
common_multiple_along [] m k d h = refl
common_multiple_along (x ∷ parts) m k d h = both_true _ _ (at (unsigned_abs x.a) (first_true _ _ h)) (common_multiple_along parts m k d (second_true _ _ h))
  where
    at : (s : ℕ) → ((s == 0) || (m % s == 0)) ≡ true → ((s == 0) || (k % s == 0)) ≡ true
    at zero t = passes_at_zero 0 k refl
    at (suc s) t = passes_at_multiple (suc s) k (dvd_trans (suc s) (multiple_from_pass (suc s) m (omega arith) t) d)

common_multiple_push : (parts : List AnB) (x : AnB) (k : ℕ) → is_common_multiple (parts ++ (x ∷ [])) k ≡ (is_common_multiple parts k && ((unsigned_abs x.a == 0) || (k % unsigned_abs x.a == 0)))
common_multiple_push parts x k = and_push (λ xs. is_common_multiple xs k) (λ y. (unsigned_abs y.a == 0) || (k % unsigned_abs y.a == 0)) refl (λ _ _. refl) parts x

product_of_steps_positive : (parts : List AnB) → 0 < product_of_steps parts
product_of_steps_positive [] = omega arith
product_of_steps_positive (x ∷ parts) = product_positive _ _ (omega arith) (product_of_steps_positive parts)

product_passes : (s n : ℕ) → ((s == 0) || ((max 1 s * n) % s == 0)) ≡ true
product_passes zero n = passes_at_zero 0 (max 1 0 * n) refl
product_passes (suc s) n = passes_at_multiple (suc s) (max 1 (suc s) * n) (let e : max 1 (suc s) ≡ suc s = omega arith in subst (λ (m : ℕ). suc s ∣ m * n) (sym e) (dvd-mul_right (suc s) n))

product_is_common : (parts : List AnB) → is_common_multiple parts (product_of_steps parts) ≡ true
product_is_common [] = refl
product_is_common (x ∷ parts) = both_true _ _ (product_passes (unsigned_abs x.a) (product_of_steps parts)) (common_multiple_along parts (product_of_steps parts) _ (dvd-mul_left (product_of_steps parts) _) (product_is_common parts))

-- what a common multiple leaves of another is one
remainder_passes : (s m k : ℕ) → ((s == 0) || (m % s == 0)) ≡ true → ((s == 0) || (k % s == 0)) ≡ true → ((s == 0) || (k % m % s == 0)) ≡ true
remainder_passes zero m k t u = passes_at_zero 0 (k % m) refl
remainder_passes (suc s) m k t u = passes_at_multiple (suc s) (k % m) ((dvd-mod_iff (suc s) {m = k} {n = m} (multiple_from_pass (suc s) m (omega arith) t)).1 (multiple_from_pass (suc s) k (omega arith) u))

remainder_is_common : (parts : List AnB) (m k : ℕ) → is_common_multiple parts m ≡ true → is_common_multiple parts k ≡ true → is_common_multiple parts (k % m) ≡ true
remainder_is_common [] m k h g = refl
remainder_is_common (x ∷ parts) m k h g = both_true _ _ (remainder_passes (unsigned_abs x.a) m k (first_true _ _ h) (first_true _ _ g)) (remainder_is_common parts m k (second_true _ _ h) (second_true _ _ g))

-- m is a common multiple of the steps, and divides each other one
pub record IsPeriod (parts : List AnB) (m : ℕ) : Type 0 where
  pub positive : 0 < m
  pub common : is_common_multiple parts m ≡ true
  pub least : (k : ℕ) → is_common_multiple parts k ≡ true → m ∣ k

pub period_none : IsPeriod [] 1
period_none = record { positive = omega arith; common = refl; least = λ k _. one-dvd k }

pub period_past_zero : (parts : List AnB) (x : AnB) (m : ℕ) → unsigned_abs x.a ≡ 0 → IsPeriod parts m → IsPeriod (parts ++ (x ∷ [])) m
period_past_zero parts x m e h = record {
  positive = h.positive;
  common = common_multiple_push parts x m ∙ both_true _ _ h.common (passes_at_zero (unsigned_abs x.a) m e);
  least = λ k t. h.least k (first_true _ _ (sym (common_multiple_push parts x k) ∙ t));
}

pub period_more : (parts : List AnB) (x : AnB) (m n : ℕ) → 0 < unsigned_abs x.a → IsPeriod parts m → IsLeastCommonMultiple m (unsigned_abs x.a) n → IsPeriod (parts ++ (x ∷ [])) n
period_more parts x m n p h l = record {
  positive = l.0;
  common = common_multiple_push parts x n ∙ both_true _ _ (common_multiple_along parts m n l.1 h.common) (passes_at_multiple (unsigned_abs x.a) n l.2);
  least = λ k t. (let u = sym (common_multiple_push parts x k) ∙ t in
      l.3 k (h.least k (first_true _ _ u)) (multiple_from_pass (unsigned_abs x.a) k p (second_true _ _ u)));
}

is_false : (b : Bool) → (b ≡ true → ⊥) → b ≡ false
is_false true h = absurd (h refl)
is_false false h = refl

pub period_is : (parts : List AnB) (m : ℕ) → IsPeriod parts m → period_of parts ≡ m
period_is parts m h = first_passing_is (is_common_multiple parts) 1 (product_of_steps parts - 1) m h.positive
    (let le : m ≤ product_of_steps parts = le_of_dvd (product_of_steps_positive parts) (h.least _ (product_is_common parts)) in omega arith)
    h.common
    (λ k p q. is_false (is_common_multiple parts k) (λ t. let le : m ≤ k = le_of_dvd p (h.least k t) in omega arith))

-- each list has a period
pub period_exists : (parts : List AnB) → IsPeriod parts (period_of parts)
period_exists parts = record {
  positive = found.low;
  common = found.here;
  least = λ k t. dvd_of_mod-eq-zero (period_of parts) (nothing_left (k % period_of parts) (λ l.
      false≢true (sym (found.none (k % period_of parts) l (mod-lt k found.low)) ∙ remainder_is_common parts (period_of parts) k found.here t)));
}
  where
    found : IsFirst (is_common_multiple parts) 1 (period_of parts)
    found = first_passing_finds (is_common_multiple parts) 1 (product_of_steps parts - 1) (ap (is_common_multiple parts) last ∙ product_is_common parts)
      where
        last : 1 + (product_of_steps parts - 1) ≡ product_of_steps parts
        last = let p : 0 < product_of_steps parts = product_of_steps_positive parts in omega arith

-- the factors of a period: at most 32 for each stepped part
pub room : (p s c : ℕ) → p ≤ 32 ^ c → c ≤ 4 → s ≤ 32 → p * s < 2 ^ 32
room p s c h few small = (let m : 32 ^ c ≤ 32 ^ 4 = pow-le-pow_right {n = 32} (omega arith) few in let k : p * s ≤ 1048576 * 32 = mul-le-mul {n₁ = p} {n₂ = 1048576} (omega arith) small in omega arith)

pub grown : (p s c q : ℕ) (b : Bool) → p ≤ 32 ^ c → q ≤ p * s → s ≤ 32 → nat_le 2 s ≡ b → q ≤ 32 ^ (c + cond b 1 0)
grown p s c q true h le small e = (let k : p * s ≤ 32 ^ c * 32 = mul-le-mul h small in let w : 32 ^ (c + 1) ≡ 32 ^ c * 32 = rw add-one (pow-suc 32 c) in omega arith)
grown p s c q false h le small e = (let k : p * s ≤ p * 1 = mul-le-mul_left p (let l : s < 2 = leb-false 2 s e in omega arith) in let w : c + 0 ≡ c = omega arith in rw w (omega arith))

pub period_small : (p c : ℕ) → p ≤ 32 ^ c → c ≤ 4 → p ≤ 32 ^ 4
period_small p c h few = (let m : 32 ^ c ≤ 32 ^ 4 = pow-le-pow_right {n = 32} (omega arith) few in omega arith)

pub kept : (p c : ℕ) (b : Bool) → p ≤ 32 ^ c → p ≤ 32 ^ (c + cond b 1 0)
kept p c b h = (let m : 32 ^ c ≤ 32 ^ (c + cond b 1 0) = pow-le-pow_right {n = 32} (omega arith) {i = c} {j = c + cond b 1 0} (omega arith) in omega arith)

-- a step is 0 where its bits are
pub size_from_bits : (z : ℤ) → (of_z w32 z ≡ 0 → ⊥) → 0 < unsigned_abs z
size_from_bits (pos zero) h = absurd (h refl)
size_from_bits (pos (suc n)) h = omega arith
size_from_bits (negsuc n) h = omega arith

pub no_size_from_bits : (z : ℤ) → FitsSigned w32 z → of_z w32 z ≡ 0 → unsigned_abs z ≡ 0
no_size_from_bits (pos n) f e = e
no_size_from_bits (negsuc n) f e = let h : n < 2 ^ 31 = f.sfits in absurd (omega arith)

-- the period is a multiple of each step that is not 0
pub step_divides : (parts : List AnB) (x : AnB) → Contains parts x → 0 < unsigned_abs x.a → unsigned_abs x.a ∣ period_of parts
step_divides parts x member p = multiple_from_pass (unsigned_abs x.a) (period_of parts) p
    (All-contains (λ (y : AnB). ((unsigned_abs y.a == 0) || (period_of parts % unsigned_abs y.a == 0)) ≡ true) parts x
    (AllPass-from_list_all (λ (y : AnB). (unsigned_abs y.a == 0) || (period_of parts % unsigned_abs y.a == 0)) parts (period_exists parts).common) member)
