-- Positions by a remainder and a bound, as a divider and a comparison find them.
use Rattle.std.proofs.Common.{ap, arith, negsuc, pos, suc, sym, ℕ, ℤ, ◌%◌, ◌*◌, ◌+ℤ◌, ◌+◌, ◌-◌, ◌/◌, ◌<◌, ◌↔◌, ◌∙◌, ◌≡◌, ◌≤◌}
use Rattle.std.proofs.Math.Nat.{div-add-mod, div-mul-le_self, mod-lt}
use Rattle.std.proofs.lemmas.Int.{ints}
use Rattle.std.proofs.lemmas.Nat.{le-div, mod-mul-add}
use Rattle.css_model.specs.Documents.Matching.{IsNth}

-- one position
pub nth_alone : (b : ℤ) (n : ℕ) → IsNth (record { a = pos 0; b = b }) (n + 1) ↔ (b ≡ pos (n + 1))
nth_alone b n = (λ (k, e). (let w : 0 * k ≡ 0 = omega arith in omega (arith, ints)), λ e. (0, omega (arith, ints)))

same_remainder : (s k c m : ℕ) → 0 < s → m ≡ s * k + c → m % s ≡ c % s
same_remainder s k c m some is =
    let d = div-add-mod c s in
    let parts : m ≡ (k + c / s) * s + c % s = grind arith in
    ap (λ (n : ℕ). n % s) parts ∙ mod-mul-add (k + c / s) s (c % s) (mod-lt c some)

apart_by : (s m c : ℕ) → 0 < s → m % s ≡ c % s → c ≤ m → m ≡ s * (m / s - c / s) + c
apart_by s m c some same less =
    let dm = div-add-mod m s in
    let dc = div-add-mod c s in
    let low = div-mul-le_self c s in
    let order : c / s ≤ m / s = le-div (c / s) m s some (omega arith) in
    let parted : s * (m / s) ≡ s * (m / s - c / s) + s * (c / s) = ap (λ (j : ℕ). s * j) (let w : m / s ≡ (m / s - c / s) + c / s = omega arith in w) ∙ omega arith in
    grind arith

-- A step upwards: c is b - 1 made natural by t steps; the position n + 1 is one exactly where n leaves
-- the same remainder as c, and is b - 1 or more.
pub nth_rising : (s t c n : ℕ) (b : ℤ) → 0 < s → b +ℤ pos (t * s) ≡ pos (c + 1) →
    IsNth (record { a = pos s; b = b }) (n + 1) ↔ ((n % s ≡ c % s) × (c ≤ n + t * s))
nth_rising s t c n b some is = (there, back)
  where
    there : IsNth (record { a = pos s; b = b }) (n + 1) → (n % s ≡ c % s) × (c ≤ n + t * s)
    there (k, e) =
        let sum : n + t * s ≡ s * k + c = omega (arith, ints) in
        (sym (same_remainder s t n (n + t * s) some (grind arith)) ∙ same_remainder s k c (n + t * s) some sum, omega arith)

    back : (n % s ≡ c % s) × (c ≤ n + t * s) → IsNth (record { a = pos s; b = b }) (n + 1)
    back (same, less) =
        let m = n + t * s in
        let all : m ≡ s * (m / s - c / s) + c = apart_by s m c some (same_remainder s t n m some (grind arith) ∙ same) less in
        (m / s - c / s, omega (arith, ints))

-- A step downwards: the same, and b - 1 or less.
pub nth_falling : (s t c n : ℕ) (b : ℤ) → b +ℤ pos (t * suc s) ≡ pos (c + 1) →
    IsNth (record { a = negsuc s; b = b }) (n + 1) ↔ ((n % suc s ≡ c % suc s) × (n + t * suc s ≤ c))
nth_falling s t c n b is = (there, back)
  where
    there : IsNth (record { a = negsuc s; b = b }) (n + 1) → (n % suc s ≡ c % suc s) × (n + t * suc s ≤ c)
    there (k, e) =
        let sum : c ≡ suc s * k + (n + t * suc s) = omega (arith, ints) in
        (sym (same_remainder (suc s) k (n + t * suc s) c (omega arith) sum ∙ same_remainder (suc s) t n (n + t * suc s) (omega arith) (grind arith)), omega arith)

    back : (n % suc s ≡ c % suc s) × (n + t * suc s ≤ c) → IsNth (record { a = negsuc s; b = b }) (n + 1)
    back (same, less) =
        let m = n + t * suc s in
        let all : c ≡ suc s * (c / suc s - m / suc s) + m = apart_by (suc s) c m (omega arith) (sym same ∙ sym (same_remainder (suc s) t n m (omega arith) (grind arith))) less in
        (c / suc s - m / suc s, omega (arith, ints))
