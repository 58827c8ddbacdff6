-- Numbers that were read with a cap, against the numbers that the text has.
use Rattle.std.proofs.Common.{◌≡◌, ℕ, zero, suc, ◌<◌, ◌≤◌, ◌⊎◌, inl, inr, Bool, true, false, ℤ, refl, ap, arith}
use Rattle.std.specs.Prelude.{unsigned_abs}
use Rattle.std.proofs.lemmas.Bool.{cases_lt}
use Rattle.css_model.specs.declared.position.AnB.{AnB}
use Rattle.css_model.specs.Positions.Range.{IsInRange}
use Rattle.css_model.specs.Positions.Reading.{capped, signed}

-- y was read as z: they are the same, or both beyond 1,000
abbrev pub Caps : ℤ → ℤ → Type 0
Caps y z = (z ≡ y) ⊎ ((1000 < unsigned_abs y) × (1000 < unsigned_abs z))

pub record CapsBoth (y z : AnB) : Type 0 where
  pub step : Caps y.a z.a
  pub offset : Caps y.b z.b

size_of : (negative : Bool) (size : ℕ) → unsigned_abs (signed negative size) ≡ size
size_of true zero = refl
size_of true (suc n) = refl
size_of false n = refl

pub caps_signed : (negative : Bool) (size : ℕ) → Caps (signed negative size) (signed negative (capped size))
caps_signed negative size = elim (cases_lt 1000 size) [
  | inl l ↦ (let a : unsigned_abs (signed negative size) ≡ size = size_of negative size in let b : unsigned_abs (signed negative (capped size)) ≡ capped size = size_of negative (capped size) in inr (omega arith, omega arith))
  | inr l ↦ (let e : capped size ≡ size = omega arith in inl (ap (signed negative) e))
]

pub caps_same : (y : ℤ) → Caps y y
caps_same y = inl refl

same_if_small : (y z : ℤ) → Caps y z → unsigned_abs z ≤ 1000 → z ≡ y
same_if_small y z (inl e) h = e
same_if_small y z (inr f) h = let g : 1000 < unsigned_abs z = f.1 in absurd (omega arith)

same_if_true_small : (y z : ℤ) → Caps y z → unsigned_abs y ≤ 1000 → z ≡ y
same_if_true_small y z (inl e) h = e
same_if_true_small y z (inr f) h = let g : 1000 < unsigned_abs y = f.0 in absurd (omega arith)

both : (a b c d : ℤ) → a ≡ c → b ≡ d → (let p : ℤ × ℤ = (a, b) in p) ≡ (c, d)
both a b c d e f = cc

pub pair : (y z : AnB) → z.a ≡ y.a → z.b ≡ y.b → z ≡ y
pair y z e f = ap (λ (p : ℤ × ℤ). let x : AnB = record { a = p.0; b = p.1 } in x) (both z.a z.b y.a y.b e f)

-- what was read is what the text has, where either is in range
pub same_if_read_in_range : (y z : AnB) → CapsBoth y z → IsInRange z → z ≡ y
same_if_read_in_range y z c r = (let a = r.0 in let b = r.1 in pair y z (same_if_small y.a z.a c.step (omega arith)) (same_if_small y.b z.b c.offset (omega arith)))

pub same_if_in_range : (y z : AnB) → CapsBoth y z → IsInRange y → z ≡ y
same_if_in_range y z c r = (let a = r.0 in let b = r.1 in pair y z (same_if_true_small y.a z.a c.step (omega arith)) (same_if_true_small y.b z.b c.offset (omega arith)))
