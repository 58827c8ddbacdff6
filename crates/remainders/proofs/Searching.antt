-- A search for the first number that passes, step by step.
use Rattle.std.proofs.Common.{Bool, ap, arith, false, refl, suc, sym, true, ℕ, ◌+◌, ◌-◌, ◌<◌, ◌∙◌, ◌≡◌, ◌≢◌, ◌≤◌}
use Rattle.std.proofs.lemmas.Bool.{eqb-true}
use Rattle.std.specs.Prelude.{◌==◌}
use Rattle.nth_positions.specs.Gaps.{first_passing}

pub passes_here : (p : ℕ → Bool) (start more : ℕ) → p start ≡ true → first_passing p start (suc more) ≡ start
passes_here p start more e = rw (e, first_passing) refl

pub passes_later : (p : ℕ → Bool) (start more : ℕ) → p start ≡ false → first_passing p start (suc more) ≡ first_passing p (suc start) more
passes_later p start more e = rw (e, first_passing) refl

-- up to `end`, from the k-th on
pub found_here : (p : ℕ → Bool) (k end first : ℕ) → k < end → first_passing p k (end - k) ≡ first → p k ≡ true → k ≡ first
found_here p k end first less e here =
    sym (ap (first_passing p k) (let q : end - k ≡ suc (end - k - 1) = omega arith in q) ∙ passes_here p k (end - k - 1) here) ∙ e

pub found_later : (p : ℕ → Bool) (k end first : ℕ) → k < end → first_passing p k (end - k) ≡ first → p k ≡ false → first_passing p (k + 1) (end - (k + 1)) ≡ first
found_later p k end first less e none =
    ap (λ (n : ℕ). first_passing p n (end - (k + 1))) (let q : k + 1 ≡ suc k = omega arith in q)
    ∙ sym (ap (first_passing p k) (let q : end - k ≡ suc (end - (k + 1)) = omega arith in q) ∙ passes_later p k (end - (k + 1)) none) ∙ e

pub found_end : (p : ℕ → Bool) (k end first : ℕ) → end ≤ k → first_passing p k (end - k) ≡ first → k ≡ first
found_end p k end first low e = sym (ap (first_passing p k) (let q : end - k ≡ 0 = omega arith in q)) ∙ e

-- what is not 0 does not pass for it
pub not_nothing : (n : ℕ) → n ≢ 0 → (n == 0) ≡ false
not_nothing n h = by (n == 0) refl
  where
    by : (b : Bool) → (n == 0) ≡ b → b ≡ false
    by true e = absurd (h (eqb-true n 0 e))
    by false e = refl
