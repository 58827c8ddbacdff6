-- Numbers that ascend, with one more or one less.
use Rattle.std.proofs.Common.{◌≡◌, ◌≢◌, ◌⊎◌, ◌↔◌, inl, inr, ℕ, suc, ◌+◌, ◌-◌, ◌<◌, ◌≤◌, List, [], ◌∷◌, length, get_or, take, drop, Some, Result, Ok, Err, sym, ap, ◌∙◌, subst, IsPermutation, arith}
use Rattle.std.specs.Prelude.{slice_get}
use Rattle.std.specs.List.{AllPairs, Contains, insert, remove}
use Rattle.std.specs.List.Sorted.{IsBinarySearchResult, IsStrictlyIncreasing}
use Rattle.std.specs.Ordering.{nat_cmp}
use Rattle.std.proofs.lemmas.Bool.{cases_lt}
use Rattle.std.proofs.lemmas.List.{get_or-drop, get_or-take, get_or_default, length-drop, length-take-le}
use Rattle.std.proofs.lemmas.List.Edits.{get_or-insert_above, get_or-insert_at, get_or-insert_below, get_or-remove_above, get_or-remove_below, length-insert, length-remove}
use Rattle.std.proofs.lemmas.List.Kept.{AllPairs-from_increasing}
use Rattle.std.proofs.lemmas.List.Quantifiers.{all_pairs_remove}
use Rattle.std.proofs.lemmas.List.Sorted.{Contains-permutation, IsPermutation-insert, IsPermutation-remove, IsPermutation-sym, searched}
use Rattle.std.proofs.lemmas.Map.Keys.{non_decreasing_from_sorted, sorted_from_strictly_increasing}
use Rattle.std.proofs.lemmas.Option.{get_or_from_slice_get}
use Rattle.list_facts.proofs.Members.{Contains-cons_cases, Contains-here, Contains-nil, Contains-there}
use Rattle.rule_tables.specs.Entries.{Puts, TakesOut}
use Rattle.rule_tables.specs.Places.{IsPlaceAmong}

-- ---- Places

rises : (xs : List ℕ) → IsStrictlyIncreasing xs → (i j : ℕ) → i ≤ j → j < length xs → get_or xs i 0 ≤ get_or xs j 0
rises xs ascends i j le within = non_decreasing_from_sorted xs (sorted_from_strictly_increasing xs ascends) i j 0 le within

pub searched_place : (xs : List ℕ) (x : ℕ) (r : Result ℕ ℕ) → IsStrictlyIncreasing xs → IsBinarySearchResult (λ y. nat_cmp y x) xs r → IsPlaceAmong xs x r
searched_place xs x r ascends found = searched xs x r found (rises xs ascends)

pub last_place : (xs : List ℕ) (x last : ℕ) → IsStrictlyIncreasing xs → Some last ≡ slice_get xs (length xs - 1) → last < x → IsPlaceAmong xs x (Err (length xs))
last_place xs x last ascends at less = (
  omega arith,
  λ k l. let up : get_or xs k 0 ≤ get_or xs (length xs - 1) 0 = rises xs ascends k (length xs - 1) (omega (arith, l)) (omega (arith, l)) in omega (arith, up, less, is),
  λ k le l. absurd (omega (arith, le, l)),
)
  where
    is : get_or xs (length xs - 1) 0 ≡ last
    is = get_or_from_slice_get xs (length xs - 1) last 0 (sym at)

module _ (xs : List ℕ) (x i : ℕ) (ascends : IsStrictlyIncreasing xs) (within : i < length xs) (is : get_or xs i 0 ≡ x) where
  pub below_place : (k : ℕ) → k < i → get_or xs k 0 < x
  below_place k less = let h : get_or xs k 0 < get_or xs i 0 = AllPairs-from_increasing xs ascends k i 0 less within in omega (arith, h, is)

  pub from_place : (k : ℕ) → i ≤ k → k < length xs → x ≤ get_or xs k 0
  from_place k least inside = let h : get_or xs i 0 ≤ get_or xs k 0 = rises xs ascends i k least inside in omega (arith, h, is)

-- ---- Parts of a list

pub front_ascends : (xs : List ℕ) (n : ℕ) → n ≤ length xs → IsStrictlyIncreasing xs → IsStrictlyIncreasing (take n xs)
front_ascends xs n few ascends k less =
    let count : length (take n xs) ≡ n = length-take-le n xs few in
    let one : get_or (take n xs) k 0 ≡ get_or xs k 0 = get_or-take n xs k 0 (omega (arith, less, count)) in
    let next : get_or (take n xs) (k + 1) 0 ≡ get_or xs (k + 1) 0 = get_or-take n xs (k + 1) 0 (omega (arith, less, count)) in
    let h : get_or xs k 0 < get_or xs (k + 1) 0 = ascends k (omega (arith, less, count, few)) in
    omega (arith, one, next, h)

pub rest_ascends : (xs : List ℕ) (n : ℕ) → IsStrictlyIncreasing xs → IsStrictlyIncreasing (drop n xs)
rest_ascends xs n ascends k less =
    let count : length (drop n xs) ≡ length xs - n = length-drop n xs in
    let one : get_or (drop n xs) k 0 ≡ get_or xs (n + k) 0 = get_or-drop n xs k 0 in
    let next : get_or (drop n xs) (k + 1) 0 ≡ get_or xs (n + (k + 1)) 0 = get_or-drop n xs (k + 1) 0 in
    let same : n + (k + 1) ≡ n + k + 1 = omega arith in
    let h : get_or xs (n + k) 0 < get_or xs (n + k + 1) 0 = ascends (n + k) (omega (arith, less, count)) in
    let e : get_or xs (n + (k + 1)) 0 ≡ get_or xs (n + k + 1) 0 = ap (λ (i : ℕ). get_or xs i 0) same in
    omega (arith, one, next, h, e)

-- a number is in a list at a place
at_zero : (xs : List ℕ) (x : ℕ) → Contains xs x → (k : ℕ) × (k < length xs) × (get_or xs k 0 ≡ x)
at_zero xs x (k, within, is) = (k, within, sym (get_or_default xs k x 0 within) ∙ is)

from_zero : (xs : List ℕ) (x k : ℕ) → k < length xs → get_or xs k 0 ≡ x → Contains xs x
from_zero xs x k within is = (k, within, get_or_default xs k x 0 within ∙ is)

module _ (xs : List ℕ) (x n : ℕ) (few : n ≤ length xs) (below : (k : ℕ) → k < n → get_or xs k 0 < x) (least : (k : ℕ) → n ≤ k → k < length xs → x ≤ get_or xs k 0) where
  -- those before a place are below a number
  pub in_front : (y : ℕ) → Contains (take n xs) y ↔ (Contains xs y × (y < x))
  in_front y = (there, back)
    where
      count : length (take n xs) ≡ n
      count = length-take-le n xs few

      there : Contains (take n xs) y → Contains xs y × (y < x)
      there h =
          let w : (k : ℕ) × (k < length (take n xs)) × (get_or (take n xs) k 0 ≡ y) = at_zero (take n xs) y h in
          let less : w.0 < n = (let l = w.1 in omega (arith, l, count)) in
          let is : get_or xs w.0 0 ≡ y = sym (get_or-take n xs w.0 0 less) ∙ w.2 in
          let under : get_or xs w.0 0 < x = below w.0 less in
          (from_zero xs y w.0 (omega (arith, less, few)) is, omega (arith, under, is))

      back : Contains xs y × (y < x) → Contains (take n xs) y
      back (h, under) =
          let w : (k : ℕ) × (k < length xs) × (get_or xs k 0 ≡ y) = at_zero xs y h in
          elim (cases_lt w.0 n) [
            | inl less ↦ from_zero (take n xs) y w.0 (omega (arith, less, count)) (get_or-take n xs w.0 0 less ∙ w.2)
            | inr more ↦ absurd (let over : x ≤ get_or xs w.0 0 = least w.0 more w.1 in let is : get_or xs w.0 0 ≡ y = w.2 in omega (arith, over, is, under))
          ]

  -- those from there on are not
  pub in_rest : (y : ℕ) → Contains (drop n xs) y ↔ (Contains xs y × (x ≤ y))
  in_rest y = (there, back)
    where
      count : length (drop n xs) ≡ length xs - n
      count = length-drop n xs

      there : Contains (drop n xs) y → Contains xs y × (x ≤ y)
      there h =
          let w : (k : ℕ) × (k < length (drop n xs)) × (get_or (drop n xs) k 0 ≡ y) = at_zero (drop n xs) y h in
          let inside : n + w.0 < length xs = (let l = w.1 in omega (arith, l, count)) in
          let is : get_or xs (n + w.0) 0 ≡ y = sym (get_or-drop n xs w.0 0) ∙ w.2 in
          let over : x ≤ get_or xs (n + w.0) 0 = least (n + w.0) (omega arith) inside in
          (from_zero xs y (n + w.0) inside is, omega (arith, over, is))

      back : Contains xs y × (x ≤ y) → Contains (drop n xs) y
      back (h, over) =
          let w : (k : ℕ) × (k < length xs) × (get_or xs k 0 ≡ y) = at_zero xs y h in
          elim (cases_lt w.0 n) [
            | inl less ↦ absurd (let under : get_or xs w.0 0 < x = below w.0 less in let is : get_or xs w.0 0 ≡ y = w.2 in omega (arith, under, is, over))
            | inr more ↦ (let same : n + (w.0 - n) ≡ w.0 = omega (arith, more) in
                from_zero (drop n xs) y (w.0 - n) (let l = w.1 in omega (arith, l, count, more)) (get_or-drop n xs (w.0 - n) 0 ∙ ap (λ (i : ℕ). get_or xs i 0) same ∙ w.2))
          ]

-- without the first one
module _ (xs behind : List ℕ) (first : ℕ) (is : xs ≡ first ∷ behind) (ascends : IsStrictlyIncreasing xs) where
  pub behind_ascends : IsStrictlyIncreasing behind
  behind_ascends k less =
      let next : suc k + 1 ≡ suc (k + 1) = omega arith in
      let h : get_or (first ∷ behind) (suc k) 0 < get_or (first ∷ behind) (suc k + 1) 0 = subst IsStrictlyIncreasing is ascends (suc k) (omega (arith, less)) in
      let e : get_or (first ∷ behind) (suc k + 1) 0 ≡ get_or behind (k + 1) 0 = ap (λ (i : ℕ). get_or (first ∷ behind) i 0) next in
      omega (arith, h, e)

  pub behind_above : (y : ℕ) → Contains behind y → first < y
  behind_above y h =
      let w : (k : ℕ) × (k < length behind) × (get_or behind k 0 ≡ y) = at_zero behind y h in
      let e : get_or behind w.0 0 ≡ y = w.2 in
      let less : first < get_or behind w.0 0 = AllPairs-from_increasing (first ∷ behind) (subst IsStrictlyIncreasing is ascends) 0 (suc w.0) 0 (omega arith) (let l = w.1 in omega (arith, l)) in
      omega (arith, less, e)

  pub first_or_behind : (y : ℕ) → Contains xs y → (first ≡ y) ⊎ Contains behind y
  first_or_behind y h = Contains-cons_cases first behind y (subst (λ (ys : List ℕ). Contains ys y) is h)

  pub in_behind : (y : ℕ) → Contains behind y → Contains xs y
  in_behind y h = subst (λ (ys : List ℕ). Contains ys y) (sym is) (Contains-there first behind y h)

  pub is_first : Contains xs first
  is_first = subst (λ (ys : List ℕ). Contains ys first) (sym is) (Contains-here first behind)

  -- no number of the list is below the first one
  pub first_least : (y : ℕ) → Contains xs y → first ≤ y
  first_least y h = elim (first_or_behind y h) [
    | inl e ↦ (let f : first ≡ y = e in omega (arith, f))
    | inr k ↦ (let less : first < y = behind_above y k in omega (arith, less))
  ]

  -- the others are those above it
  pub above_first : (y : ℕ) → Contains behind y ↔ (Contains xs y × (first < y))
  above_first y = (
    λ h. (in_behind y h, behind_above y h),
    λ h. elim (first_or_behind y h.0) [ inl e ↦ absurd (let f : first ≡ y = e in let less = h.1 in omega (arith, f, less)) | inr k ↦ k ],
  )

-- those that are not below a number are above it, if it is not the first of them
pub all_above : (xs ys : List ℕ) (x : ℕ) → ((y : ℕ) → Contains ys y ↔ (Contains xs y × (x ≤ y))) → (Contains ys x → ⊥) → (y : ℕ) → Contains ys y ↔ (Contains xs y × (x < y))
all_above xs ys x are lacks y = (
  λ h. (((are y).0 h).0, above h ((are y).0 h).1),
  λ h. (are y).1 (h.0, (let less = h.1 in omega (arith, less))),
)
  where
    above : Contains ys y → x ≤ y → x < y
    above h least = elim (cases_lt x y) [
      | inl less ↦ less
      | inr most ↦ absurd (let same : y ≡ x = omega (arith, least, most) in lacks (subst (Contains ys) same h))
    ]

module _ (xs rest behind : List ℕ) (first at : ℕ) (is : rest ≡ first ∷ behind) (ascends : IsStrictlyIncreasing rest) (from : (y : ℕ) → Contains rest y ↔ (Contains xs y × (at ≤ y))) where
  pub above_at : first ≡ at → (y : ℕ) → Contains behind y ↔ (Contains xs y × (at < y))
  above_at same y = (
    λ h. (((from y).0 (in_behind rest behind first is ascends y h)).0, (let less = behind_above rest behind first is ascends y h in omega (arith, less, same))),
    λ h. (above_first rest behind first is ascends y).1 ((from y).1 (h.0, (let less = h.1 in omega (arith, less))), (let less = h.1 in omega (arith, less, same))),
  )

  pub none_at : first ≢ at → (y : ℕ) → Contains rest y ↔ (Contains xs y × (at < y))
  none_at other = all_above xs rest at from (λ h.
      let below : first ≤ at = first_least rest behind first is ascends at h in
      let least : at ≤ first = ((from first).0 (is_first rest behind first is ascends)).1 in
      other (omega (arith, below, least)))

-- ---- One more

pub inserted_ascends : (xs : List ℕ) (x i : ℕ) → IsStrictlyIncreasing xs → IsPlaceAmong xs x (Err i) → IsStrictlyIncreasing (insert xs i x)
inserted_ascends xs x i ascends (few, below, above) k less = elim (cases_lt k i) [
  | inl before ↦ (let one : get_or (insert xs i x) k 0 ≡ get_or xs k 0 = get_or-insert_below xs i x 0 k before few in elim (cases_lt (k + 1) i) [
    | inl still ↦ (let next : get_or (insert xs i x) (k + 1) 0 ≡ get_or xs (k + 1) 0 = get_or-insert_below xs i x 0 (k + 1) still few in
        let h : get_or xs k 0 < get_or xs (k + 1) 0 = ascends k (omega (arith, still, few)) in omega (arith, one, next, h))
    | inr there ↦ (let same : k + 1 ≡ i = omega (arith, before, there) in let next : get_or (insert xs i x) (k + 1) 0 ≡ x = ap (λ (n : ℕ). get_or (insert xs i x) n 0) same ∙ get_or-insert_at xs i x 0 few in
        let h : get_or xs k 0 < x = below k before in omega (arith, one, next, h))
  ])
  | inr from ↦ (let next : get_or (insert xs i x) (k + 1) 0 ≡ get_or xs k 0 = get_or-insert_above xs i x 0 k from few in
      let inside : k < length xs = omega (arith, less, count) in elim (cases_lt i k) [
        | inl behind ↦ (let back : k - 1 + 1 ≡ k = omega (arith, behind) in let one : get_or (insert xs i x) k 0 ≡ get_or xs (k - 1) 0 = ap (λ (n : ℕ). get_or (insert xs i x) n 0) (sym back) ∙ get_or-insert_above xs i x 0 (k - 1) (omega (arith, behind)) few in
            let h : get_or xs (k - 1) 0 < get_or xs (k - 1 + 1) 0 = ascends (k - 1) (omega (arith, inside, behind)) in
            let e : get_or xs (k - 1 + 1) 0 ≡ get_or xs k 0 = ap (λ (n : ℕ). get_or xs n 0) back in omega (arith, one, next, h, e))
        | inr here ↦ (let same : k ≡ i = omega (arith, from, here) in let one : get_or (insert xs i x) k 0 ≡ x = ap (λ (n : ℕ). get_or (insert xs i x) n 0) same ∙ get_or-insert_at xs i x 0 few in
            let h : x < get_or xs k 0 = above k from inside in omega (arith, one, next, h))
      ])
]
  where
    count : length (insert xs i x) ≡ length xs + 1
    count = length-insert xs i x few

pub puts_inserted : (xs : List ℕ) (x i : ℕ) → Puts xs (x ∷ []) (insert xs i x)
puts_inserted xs x i y = (
  λ h. there (Contains-cons_cases x xs y (Contains-permutation (insert xs i x) (x ∷ xs) y (IsPermutation-sym (x ∷ xs) (insert xs i x) (IsPermutation-insert xs i x)) h)),
  λ h. Contains-permutation (x ∷ xs) (insert xs i x) y (IsPermutation-insert xs i x) (back h),
)
  where
    there : (x ≡ y) ⊎ Contains xs y → Contains xs y ⊎ Contains (x ∷ []) y
    there (inl e) = inr (subst (λ (z : ℕ). Contains (z ∷ []) y) (sym e) (Contains-here y []))
    there (inr h) = inl h

    back : Contains xs y ⊎ Contains (x ∷ []) y → Contains (x ∷ xs) y
    back (inl h) = Contains-there x xs y h
    back (inr h) = elim (Contains-cons_cases x [] y h) [
      | inl e ↦ subst (λ (z : ℕ). Contains (z ∷ xs) y) (sym e) (Contains-here y xs)
      | inr n ↦ absurd (Contains-nil y n)
    ]

-- ---- One less

pub removed_ascends : (xs : List ℕ) (i : ℕ) → i < length xs → IsStrictlyIncreasing xs → IsStrictlyIncreasing (remove xs i)
removed_ascends xs i within ascends k less = all_pairs_remove (λ x y. x < y) xs i within (AllPairs-from_increasing xs ascends) k (k + 1) 0 (omega arith) less

removed_lacks : (xs : List ℕ) (x i : ℕ) → i < length xs → get_or xs i 0 ≡ x → IsStrictlyIncreasing xs → Contains (remove xs i) x → ⊥
removed_lacks xs x i within is ascends (k, less, same) =
    elim (cases_lt k i) [
      | inl l ↦ (let e : get_or xs k x ≡ x = sym (get_or-remove_below xs i x k l within) ∙ same in let h : get_or xs k x < get_or xs i x = pairs k i x l within in omega (arith, e, h, here))
      | inr l ↦ (let e : get_or xs (k + 1) x ≡ x = sym (get_or-remove_above xs i x k l within) ∙ same in
          let h : get_or xs i x < get_or xs (k + 1) x = pairs i (k + 1) x (omega (arith, l)) (let n : length (remove xs i) + 1 ≡ length xs = length-remove xs i within in omega (arith, n, less)) in omega (arith, e, h, here))
    ]
  where
    pairs : AllPairs (λ (a b : ℕ). a < b) xs
    pairs = AllPairs-from_increasing xs ascends

    here : get_or xs i x ≡ x
    here = get_or_default xs i x 0 within ∙ is

pub takes_removed : (xs : List ℕ) (x i : ℕ) → IsStrictlyIncreasing xs → IsPlaceAmong xs x (Ok i) → TakesOut xs (x ∷ []) (remove xs i)
takes_removed xs x i ascends (within, is) y = (
  λ h. (Contains-permutation (x ∷ remove xs i) xs y (IsPermutation-sym xs (x ∷ remove xs i) moved) (Contains-there x (remove xs i) y h), λ k. other h k),
  λ h. back (Contains-cons_cases x (remove xs i) y (Contains-permutation xs (x ∷ remove xs i) y moved h.0)) h.1,
)
  where
    moved : IsPermutation xs (x ∷ remove xs i)
    moved = IsPermutation-remove xs i x within (sym (get_or_default xs i x 0 within ∙ is))

    other : Contains (remove xs i) y → Contains (x ∷ []) y → ⊥
    other h k = elim (Contains-cons_cases x [] y k) [
      | inl e ↦ removed_lacks xs x i within is ascends (subst (Contains (remove xs i)) (sym e) h)
      | inr n ↦ Contains-nil y n
    ]

    back : (x ≡ y) ⊎ Contains (remove xs i) y → ¬ Contains (x ∷ []) y → Contains (remove xs i) y
    back (inl e) n = absurd (n (subst (λ (z : ℕ). Contains (z ∷ []) y) (sym e) (Contains-here y [])))
    back (inr h) n = h
