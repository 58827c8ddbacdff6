-- Beyond its offset the members of a part repeat with its step, so a reduced gap changes none.
use Rattle.std.proofs.Common.{◌≡◌, ℕ, zero, suc, ◌+◌, ◌-◌, ◌*◌, ◌/◌, ◌%◌, ◌<◌, ◌≤◌, ◌↔◌, inl, inr, List, ℤ, pos, negsuc, ◌+ℤ◌, ◌*ℤ◌, sym, ap, subst, ◌∙◌, arith, cond, lt-ltb, le-ltb}
use Rattle.std.specs.Prelude.{unsigned_abs, Contains}
use Rattle.std.proofs.lemmas.Int.{ints}
use Rattle.std.proofs.lemmas.Bool.{cases_lt}
use Rattle.std.proofs.Math.Nat.{mul-div_cancel', div-add-mod, mul-le-mul_left, mod-lt}
use Rattle.css_model.specs.declared.position.AnB.{AnB}
use Rattle.css_model.specs.Documents.Matching.{IsNth}
use Rattle.nth_positions.specs.Gaps.{bounds_of, reduced, threshold_of, period_of}
use Rattle.nth_positions.proofs.Offsets.{offset_below}
use Rattle.nth_positions.proofs.CommonMultiples.{step_divides, period_exists}

-- d steps further on
further : (a b : ℤ) (k m d n : ℕ) → unsigned_abs b < k → m ≡ k + unsigned_abs a * d → pos k ≡ (a *ℤ pos n) +ℤ b → (n' : ℕ) × (pos m ≡ (a *ℤ pos n') +ℤ b)
further (pos s) b k m d n h e g = (n + d, omega (arith, ints))
further (negsuc s) b k m d n h e g = absurd (omega (arith, ints))

-- d steps back
back : (a b : ℤ) (k m d n : ℕ) → unsigned_abs b < k → m ≡ k + unsigned_abs a * d → pos m ≡ (a *ℤ pos n) +ℤ b → (n' : ℕ) × (pos k ≡ (a *ℤ pos n') +ℤ b)
back (pos s) b k m d n h e g = elim (cases_lt n d) [
  | inl l ↦ (let le : s * n ≤ s * d = mul-le-mul_left s (let w : n ≤ d = omega arith in w) in absurd (omega (arith, ints)))
  | inr l ↦ (n - d, (let parted : s * n ≡ s * (n - d) + s * d = ap (λ j. s * j) (let w : n ≡ (n - d) + d = omega arith in w) ∙ omega arith in omega (arith, ints)))
]
back (negsuc s) b k m d n h e g = absurd (omega (arith, ints))

-- members beyond the offset, d steps apart
apart : (x : AnB) (k m d : ℕ) → unsigned_abs x.b < k → m ≡ k + unsigned_abs x.a * d → IsNth x m ↔ IsNth x k
apart x k m d h e = ((λ (n, g). back x.a x.b k m d n h e g), (λ (n, g). further x.a x.b k m d n h e g))

-- a step of 0 has no member beyond its offset
none_beyond : (x : AnB) (k : ℕ) → unsigned_abs x.a ≡ 0 → unsigned_abs x.b < k → IsNth x k → ⊥
none_beyond x k z h (n, g) = at x.a z g
  where
    at : (a : ℤ) → unsigned_abs a ≡ 0 → pos k ≡ (a *ℤ pos n) +ℤ x.b → ⊥
    at (pos zero) e g' = let w : 0 * n ≡ 0 = omega arith in omega (arith, ints)
    at (pos (suc a)) e g' = omega arith
    at (negsuc a) e g' = omega arith

-- members beyond the offset, a multiple of the period apart
by_periods : (parts : List AnB) (x : AnB) (k m q : ℕ) → Contains parts x → unsigned_abs x.b < k → m ≡ k + period_of parts * q → IsNth x m ↔ IsNth x k
by_periods parts x k m q member h e = elim (cases_lt 0 (unsigned_abs x.a)) [
  | inl p ↦ apart x k m (period_of parts / unsigned_abs x.a * q) h (
      let whole : unsigned_abs x.a * (period_of parts / unsigned_abs x.a) ≡ period_of parts = mul-div_cancel' (unsigned_abs x.a) (step_divides parts x member p) in
      e ∙ ap (λ j. k + j * q) (sym whole) ∙ omega arith)
  | inr z ↦ ((λ g. absurd (none_beyond x m (omega arith) (omega arith) g)), (λ g. absurd (none_beyond x k (omega arith) h g)))
]

-- a gap below threshold + period stays, and another is a multiple of the period further
reduced_near : (parts : List AnB) (gap : ℕ) → gap < threshold_of parts + period_of parts → reduced (bounds_of parts) gap ≡ gap
reduced_near parts gap l = ap (λ b. cond b gap (threshold_of parts + (gap - threshold_of parts) % period_of parts)) (lt-ltb gap (threshold_of parts + period_of parts) l)

reduced_far : (parts : List AnB) (gap : ℕ) → threshold_of parts + period_of parts ≤ gap → reduced (bounds_of parts) gap ≡ threshold_of parts + (gap - threshold_of parts) % period_of parts
reduced_far parts gap l = ap (λ b. cond b gap (threshold_of parts + (gap - threshold_of parts) % period_of parts)) (le-ltb gap (threshold_of parts + period_of parts) l)

pub members_kept : (parts : List AnB) (x : AnB) (gap k : ℕ) → Contains parts x → 1 ≤ k → IsNth x (gap + k) ↔ IsNth x (reduced (bounds_of parts) gap + k)
members_kept parts x gap k member p = elim (cases_lt gap (threshold_of parts + period_of parts)) [
  | inl l ↦ subst (λ (r : ℕ). IsNth x (gap + k) ↔ IsNth x (r + k)) (sym (reduced_near parts gap l)) ((λ g. g), (λ g. g))
  | inr l ↦ subst (λ (r : ℕ). IsNth x (gap + k) ↔ IsNth x (r + k)) (sym (reduced_far parts gap l)) (
      let t = threshold_of parts in
      let low : unsigned_abs x.b ≤ threshold_of parts = offset_below parts x member in
      let whole : period_of parts * ((gap - threshold_of parts) / period_of parts) + (gap - threshold_of parts) % period_of parts ≡ gap - threshold_of parts = div-add-mod (gap - threshold_of parts) (period_of parts) in
      by_periods parts x (threshold_of parts + (gap - threshold_of parts) % period_of parts + k) (gap + k) ((gap - threshold_of parts) / period_of parts) member (omega arith) (omega arith))
]

pub zero_kept : (parts : List AnB) (gap : ℕ) → (reduced (bounds_of parts) gap ≡ 0) ↔ (gap ≡ 0)
zero_kept parts gap = elim (cases_lt gap (threshold_of parts + period_of parts)) [
  | inl l ↦ ((λ e. sym (reduced_near parts gap l) ∙ e), (λ e. reduced_near parts gap l ∙ e))
  | inr l ↦ ((λ e. let f : threshold_of parts + (gap - threshold_of parts) % period_of parts ≡ 0 = sym (reduced_far parts gap l) ∙ e in absurd (omega arith)), (λ e. absurd (omega arith)))
]

pub reduced_below : (parts : List AnB) (gap : ℕ) → reduced (bounds_of parts) gap < threshold_of parts + period_of parts
reduced_below parts gap = elim (cases_lt gap (threshold_of parts + period_of parts)) [
  | inl l ↦ subst (λ (r : ℕ). r < threshold_of parts + period_of parts) (sym (reduced_near parts gap l)) l
  | inr l ↦ subst (λ (r : ℕ). r < threshold_of parts + period_of parts) (sym (reduced_far parts gap l)) (let w : (gap - threshold_of parts) % period_of parts < period_of parts = mod-lt (gap - threshold_of parts) (period_exists parts).positive in omega arith)
]
