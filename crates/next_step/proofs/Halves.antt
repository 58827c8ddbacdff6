-- Order keys on both sides of one.
use Rattle.std.proofs.Common.{◌≡◌, ℕ, ◌+◌, ◌-◌, ◌<◌, ◌≤◌, List, Result, MatchResult, length, take, drop, get_or, ap, subst, inl, inr, ◌∙◌, arith}
use Rattle.std.specs.Prelude.{slice_index}
use Rattle.std.specs.List.Sorted.{IsBinarySearchResult, IsStrictlyIncreasing}
use Rattle.std.specs.Ordering.{nat_cmp}
use Rattle.std.proofs.lemmas.Bool.{cases_lt}
use Rattle.std.proofs.lemmas.List.{get_or-drop, get_or-take, get_or_default, length-drop, length-take-le}
use Rattle.std.proofs.lemmas.List.Kept.{AllPairs-from_increasing}
use Rattle.std.proofs.lemmas.List.Sorted.{searched}
use Rattle.next_step.specs.Halves.{AreAbove, AreBelow}

rises : (xs : List ℕ) → IsStrictlyIncreasing xs → (i j : ℕ) → i ≤ j → j < length xs → get_or xs i 0 ≤ get_or xs j 0
rises xs up i j most within = elim (cases_lt i j) [
  | inl l ↦ (let h : get_or xs i 0 < get_or xs j 0 = AllPairs-from_increasing xs up i j 0 l within in omega (arith, h))
  | inr l ↦ (let e : i ≡ j = omega (arith, l, most) in subst (λ (k : ℕ). get_or xs i 0 ≤ get_or xs k 0) e (let h : get_or xs i 0 ≤ get_or xs i 0 = omega arith in h))
]

-- what a search for an order key says
pub found_at : (xs : List ℕ) (at : ℕ) (r : Result ℕ ℕ) → IsStrictlyIncreasing xs → IsBinarySearchResult (λ y. nat_cmp y at) xs r →
    MatchResult r (λ i. (i < length xs) × (get_or xs i 0 ≡ at)) (λ i. (i ≤ length xs) × ((k : ℕ) → k < i → get_or xs k 0 < at) × ((k : ℕ) → i ≤ k → k < length xs → at < get_or xs k 0))
found_at xs at r up is = searched xs at r is (rises xs up)

-- where an order key stands, those before are below it
pub before_it : (xs : List ℕ) → IsStrictlyIncreasing xs → (at i : ℕ) → i < length xs → get_or xs i 0 ≡ at → (k : ℕ) → k < i → slice_index xs k < at
before_it xs up at i within is k less = let h : get_or xs k 0 < get_or xs i 0 = AllPairs-from_increasing xs up k i 0 less within in omega (arith, h, is)

pub behind_it : (xs : List ℕ) → IsStrictlyIncreasing xs → (at i : ℕ) → get_or xs i 0 ≡ at → (k : ℕ) → i < k → k < length xs → at < slice_index xs k
behind_it xs up at i is k less within = let h : get_or xs i 0 < get_or xs k 0 = AllPairs-from_increasing xs up i k 0 less within in omega (arith, h, is)

pub from_it : (xs : List ℕ) → IsStrictlyIncreasing xs → (at i : ℕ) → get_or xs i 0 ≡ at → (k : ℕ) → i ≤ k → k < length xs → at ≤ slice_index xs k
from_it xs up at i is k most within = let h : get_or xs i 0 ≤ get_or xs k 0 = rises xs up i k most within in omega (arith, h, is)

pub up_to_it : (xs : List ℕ) → IsStrictlyIncreasing xs → (at i : ℕ) → i < length xs → get_or xs i 0 ≡ at → (k : ℕ) → k ≤ i → slice_index xs k ≤ at
up_to_it xs up at i within is k most = let h : get_or xs k 0 ≤ get_or xs i 0 = rises xs up k i most within in omega (arith, h, is)

module _ (xs : List ℕ) (up : IsStrictlyIncreasing xs) (at n : ℕ) (place : n ≤ length xs) where
  taken : (k : ℕ) → k < n → get_or (take n xs) k 0 ≡ get_or xs k 0
  taken k less = get_or-take n xs k 0 less

  count : length (take n xs) ≡ n
  count = length-take-le n xs place

  pub below_are : ((k : ℕ) → k < n → slice_index xs k < at) → ((k : ℕ) → n ≤ k → k < length xs → at ≤ slice_index xs k) → AreBelow xs at (take n xs)
  below_are before behind = record {
    ascend = λ k within.
        let two : k + 1 < n = omega (arith, within, count) in
        let one : k < n = omega (arith, two) in
        let here : get_or xs k 0 < get_or xs (k + 1) 0 = up k (omega (arith, two, place)) in
        let a : get_or (take n xs) k 0 ≡ get_or xs k 0 = taken k one in
        let b : get_or (take n xs) (k + 1) 0 ≡ get_or xs (k + 1) 0 = taken (k + 1) two in
        omega (arith, here, a, b);
    below = λ x (k, within, is).
        let one : k < n = omega (arith, within, count) in
        let a : get_or (take n xs) k 0 ≡ get_or xs k 0 = taken k one in
        let b : get_or (take n xs) k x ≡ get_or (take n xs) k 0 = get_or_default (take n xs) k x 0 within in
        let c : get_or (take n xs) k x ≡ x = is in
        let d : get_or xs k 0 < at = before k one in
        omega (arith, a, b, c, d);
    each = λ x (k, within, is) less.
        let b : get_or xs k x ≡ get_or xs k 0 = get_or_default xs k x 0 within in
        let c : get_or xs k x ≡ x = is in
        elim (cases_lt k n) [
          | inl l ↦ (k, (let w : k < length (take n xs) = omega (arith, l, count) in w), get_or-take n xs k x l ∙ is)
          | inr l ↦ absurd (let d : at ≤ get_or xs k 0 = behind k l within in omega (arith, b, c, d, less))
        ];
  }

  dropped : (k : ℕ) → get_or (drop n xs) k 0 ≡ get_or xs (n + k) 0
  dropped k = get_or-drop n xs k 0

  left : length (drop n xs) ≡ length xs - n
  left = length-drop n xs

  pub above_are : ((k : ℕ) → k < n → k < length xs → slice_index xs k ≤ at) → ((k : ℕ) → n ≤ k → k < length xs → at < slice_index xs k) → AreAbove xs at (drop n xs)
  above_are before behind = record {
    ascend = λ k within.
        let two : n + k + 1 < length xs = omega (arith, within, left, place) in
        let here : get_or xs (n + k) 0 < get_or xs (n + k + 1) 0 = up (n + k) two in
        let a : get_or (drop n xs) k 0 ≡ get_or xs (n + k) 0 = dropped k in
        let b : get_or (drop n xs) (k + 1) 0 ≡ get_or xs (n + (k + 1)) 0 = dropped (k + 1) in
        let c : get_or xs (n + (k + 1)) 0 ≡ get_or xs (n + k + 1) 0 = ap (λ (i : ℕ). get_or xs i 0) (let e : n + (k + 1) ≡ n + k + 1 = omega arith in e) in
        omega (arith, here, a, b, c);
    above = λ x (k, within, is).
        let there : n + k < length xs = omega (arith, within, left, place) in
        let a : get_or (drop n xs) k 0 ≡ get_or xs (n + k) 0 = dropped k in
        let b : get_or (drop n xs) k x ≡ get_or (drop n xs) k 0 = get_or_default (drop n xs) k x 0 within in
        let c : get_or (drop n xs) k x ≡ x = is in
        let d : at < get_or xs (n + k) 0 = behind (n + k) (omega arith) there in
        omega (arith, a, b, c, d);
    each = λ x (k, within, is) more.
        let b : get_or xs k x ≡ get_or xs k 0 = get_or_default xs k x 0 within in
        let c : get_or xs k x ≡ x = is in
        elim (cases_lt k n) [
          | inl l ↦ absurd (let d : get_or xs k 0 ≤ at = before k l within in omega (arith, b, c, d, more))
          | inr l ↦ (
              let e : n + (k - n) ≡ k = omega (arith, l) in
              (k - n, (let w : k - n < length (drop n xs) = omega (arith, l, within, left, place) in w), get_or-drop n xs (k - n) x ∙ ap (λ (i : ℕ). get_or xs i x) e ∙ is))
        ];
  }
