-- The first number that passes, from what is known of it; and the width of a number so.
use Rattle.std.proofs.Common.{◌≡◌, ℕ, zero, suc, ◌+◌, ◌-◌, ◌*◌, ◌^◌, ◌<◌, ◌≤◌, Bool, true, false, refl, sym, ap, subst, ◌∙◌, ◌⊎◌, inl, inr, arith, lt-ltb, le-ltb, ltb-true}
use Rattle.std.specs.Prelude.{nat_lt}
use Rattle.std.proofs.lemmas.Nat.{leading_length}
use Rattle.std.proofs.lemmas.Bool.{false≢true, cases_lt}
use Rattle.std.proofs.Math.Nat.{pow-le-pow_right, two-pow-succ}
use lib.Count.{count_leading_zeros}
use Rattle.nth_positions.specs.Gaps.{first_passing, width_of}

here_or_later : (m start : ℕ) → start ≤ m → (start ≡ m) ⊎ (suc start ≤ m)
here_or_later m start h = elim (cases_lt start m) [ inl k ↦ inr k | inr k ↦ inl (omega arith) ]

-- one step of the search
at_start : (passes : ℕ → Bool) (start more : ℕ) → passes start ≡ true → first_passing passes start (suc more) ≡ start
at_start passes start more h = rw (h, first_passing) refl

past_start : (passes : ℕ → Bool) (start more : ℕ) → passes start ≡ false → first_passing passes start (suc more) ≡ first_passing passes (suc start) more
past_start passes start more h = rw (h, first_passing) refl

-- m is the first, where it passes and none before it does
pub first_passing_is : (passes : ℕ → Bool) (start more m : ℕ) → start ≤ m → m ≤ start + more → passes m ≡ true → ((k : ℕ) → start ≤ k → k < m → passes k ≡ false) → first_passing passes start more ≡ m
first_passing_is passes start zero m low high here none = omega arith
first_passing_is passes start (suc more) m low high here none = elim (here_or_later m start low) [
  | inl e ↦ at_start passes start more (ap passes e ∙ here) ∙ e
  | inr l ↦ past_start passes start more (none start (omega arith) l) ∙ first_passing_is passes (suc start) more m l (omega arith) here (λ k p q. none k (omega arith) q)
]

-- what the search finds, where some number that it looks at passes
pub record IsFirst (passes : ℕ → Bool) (start m : ℕ) : Type 0 where
  pub low : start ≤ m
  pub here : passes m ≡ true
  pub none : (k : ℕ) → start ≤ k → k < m → passes k ≡ false

pub first_passing_finds : (passes : ℕ → Bool) (start more : ℕ) → passes (start + more) ≡ true → IsFirst passes start (first_passing passes start more)
first_passing_finds passes start zero h = record { low = omega arith; here = ap passes (omega arith) ∙ h; none = λ k p q. absurd (omega arith) }
first_passing_finds passes start (suc more) h = go (passes start) refl (first_passing_finds passes (suc start) more (ap passes (omega arith) ∙ h))
  where
    go : (b : Bool) → passes start ≡ b → IsFirst passes (suc start) (first_passing passes (suc start) more) → IsFirst passes start (first_passing passes start (suc more))
    go true e rest = subst (IsFirst passes start) (sym (at_start passes start more e)) (record { low = omega arith; here = e; none = λ k p q. absurd (omega arith) })
    go false e rest = subst (IsFirst passes start) (sym (past_start passes start more e)) (record {
      low = (let l : suc start ≤ first_passing passes (suc start) more = rest.low in omega arith);
      here = rest.here;
      none = λ k p q. elim (here_or_later k start p) [ inl u ↦ ap passes (sym u) ∙ e | inr l ↦ rest.none k l q ];
    })

below_power : (n : ℕ) → n < 2 ^ n
below_power zero = omega arith
below_power (suc n) = let h : n < 2 ^ n = below_power n in rw (two-pow-succ n) (omega arith)

half_power : (n k : ℕ) → 2 ^ suc k ≤ 2 * n + 1 → 2 ^ k ≤ n
half_power n k h = let d : 2 ^ suc k ≡ 2 ^ k + 2 ^ k = two-pow-succ k in omega arith

no_wider : (n m : ℕ) → 2 ^ m ≤ 2 * n + 1 → m ≤ n
no_wider n zero h = omega arith
no_wider n (suc m) h = let p : 2 ^ m ≤ n = half_power n m h in let q : m < 2 ^ m = below_power m in omega arith

too_narrow : (n m k : ℕ) → 2 ^ m ≤ 2 * n + 1 → k < m → 2 ^ k ≤ n
too_narrow n m k h l = half_power n k (let p : 2 ^ suc k ≤ 2 ^ m = pow-le-pow_right {n = 2} (omega arith) l in omega arith)

-- the width is what the leading zeros leave of 32 bits
pub width_is : (n : ℕ) → n < 2 ^ 32 → 32 - count_leading_zeros 32 n ≡ width_of n
width_is n h = let (m, whole, above, below) = leading_length 32 n h in
    let e : 32 - count_leading_zeros 32 n ≡ m = omega arith in
    e ∙ sym (first_passing_is (λ w. nat_lt n (2 ^ w)) 0 n m (omega arith) (let w : m ≤ n = no_wider n m below in omega arith) (lt-ltb n (2 ^ m) above) (λ k _ l. le-ltb n (2 ^ k) (too_narrow n m k below l)))

found_width : (n : ℕ) → IsFirst (λ w. nat_lt n (2 ^ w)) 0 (width_of n)
found_width n = first_passing_finds (λ w. nat_lt n (2 ^ w)) 0 n (lt-ltb n (2 ^ (0 + n)) (let p : n < 2 ^ n = below_power n in let e : 0 + n ≡ n = omega arith in rw e p))

-- a number fits its width, and no width at which it fits is less
pub width_holds : (n : ℕ) → n < 2 ^ width_of n
width_holds n = ltb-true n (2 ^ width_of n) (found_width n).here

pub width_least : (n w : ℕ) → n < 2 ^ w → width_of n ≤ w
width_least n w h = elim (cases_lt w (width_of n)) [
  | inl l ↦ absurd (false≢true (sym ((found_width n).none w (omega arith) l) ∙ lt-ltb n (2 ^ w) h))
  | inr l ↦ l
]
