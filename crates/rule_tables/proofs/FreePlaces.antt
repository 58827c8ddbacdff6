-- Order keys in a list with free places before the first one.
use Rattle.std.proofs.Common.{◌≡◌, ℕ, suc, ◌+◌, ◌-◌, ◌<◌, ◌≤◌, List, ◌∷◌, ◌++◌, length, get_or, take, drop, set, sym, ap, ◌∙◌, append-nil, append_assoc, arith}
use Rattle.std.specs.List.{copy_within, insert, refill, remove}
use Rattle.std.proofs.Math.Seq.{drop-append_seam, drop-length, set-append_seam, take-length}
use Rattle.std.proofs.lemmas.List.{drop-append-le, drop-drop, drop-set-add, drop-take, drop_more, length-drop, length-take-le}

-- what was copied, and what is after it
copied : (xs ys : List ℕ) (at n : ℕ) → at ≤ length xs → drop at ((take at xs ++ ys) ++ drop n xs) ≡ ys ++ drop n xs
copied xs ys at n few =
    ap (drop at) (append_assoc (take at xs) ys (drop n xs))
    ∙ ap (λ (k : ℕ). drop k (take at xs ++ (ys ++ drop n xs))) (sym (length-take-le at xs few))
    ∙ drop-append_seam (take at xs) (ys ++ drop n xs)

pub moved_back : (xs : List ℕ) (from to : ℕ) → from ≤ to → to < length xs → drop (from + 1) (copy_within xs from to (from + 1)) ≡ remove (drop from xs) (to - from)
moved_back xs from to order within =
    let n : ℕ = to - from in
    let same : from + 1 + (to - from) ≡ from + suc (to - from) = omega arith in
    copied xs (take n (drop from xs)) (from + 1) (from + 1 + n) (omega (arith, order, within))
    ∙ ap (λ (zs : List ℕ). take n (drop from xs) ++ zs) (ap (λ (k : ℕ). drop k xs) same ∙ sym (drop-drop (suc n) from xs))

pub moved_front : (xs : List ℕ) (from to x : ℕ) → 0 < from → from ≤ to → to ≤ length xs → drop (from - 1) (set (copy_within xs from to (from - 1)) (to - 1) x) ≡ insert (drop from xs) (to - from) x
moved_front xs from to x some order within =
    ap (λ (k : ℕ). drop m (set all k x)) last
    ∙ drop-set-add m all n x
    ∙ ap (λ (zs : List ℕ). set zs n x) (copied xs front m (m + n) (omega (arith, order, within)) ∙ ap (λ (zs : List ℕ). front ++ zs) (drop_more xs (m + n) 0 room))
    ∙ ap (λ (k : ℕ). set (front ++ get_or xs (m + n) 0 ∷ drop (m + n + 1) xs) k x) (sym count)
    ∙ set-append_seam front (get_or xs (m + n) 0) (drop (m + n + 1) xs) x
    ∙ ap (λ (zs : List ℕ). front ++ x ∷ zs) (ap (λ (k : ℕ). drop k xs) rest ∙ sym (drop-drop n from xs))
  where
    m : ℕ
    m = from - 1

    n : ℕ
    n = to - from

    all : List ℕ
    all = copy_within xs from to (from - 1)

    front : List ℕ
    front = take (to - from) (drop from xs)

    last : to - 1 ≡ from - 1 + (to - from)
    last = omega (arith, some, order)

    room : from - 1 + (to - from) < length xs
    room = omega (arith, some, order, within)

    rest : from - 1 + (to - from) + 1 ≡ from + (to - from)
    rest = omega (arith, some)

    count : length (take (to - from) (drop from xs)) ≡ to - from
    count = let long : length (drop from xs) ≡ length xs - from = length-drop from xs in length-take-le (to - from) (drop from xs) (omega (arith, order, within, long))

-- what is written back to a list
pub refilled : (xs ys : List ℕ) → length ys ≡ length xs → refill (length xs) xs ys ≡ ys
refilled xs ys same =
    ap (λ (k : ℕ). take (length xs) (ys ++ drop k xs)) same
    ∙ ap (λ (zs : List ℕ). take (length xs) (ys ++ zs)) (drop-length xs)
    ∙ ap (take (length xs)) (append-nil ys)
    ∙ ap (λ (k : ℕ). take k ys) (sym same)
    ∙ take-length ys

-- all that is left
pub whole : (xs : List ℕ) (n : ℕ) → take (length xs - n) (drop n xs) ≡ drop n xs
whole xs n = ap (λ (k : ℕ). take k (drop n xs)) (sym (length-drop n xs)) ∙ take-length (drop n xs)

pub place_within : (xs view : List ℕ) (free place : ℕ) → free ≤ length xs → drop free xs ≡ view → place ≤ length view → free + place ≤ length xs
place_within xs view free place some is few =
    let count : length (drop free xs) ≡ length xs - free = length-drop free xs in
    let same : length (drop free xs) ≡ length view = ap (λ (ys : List ℕ). length ys) is in
    omega (arith, some, count, same, few)

module _ (xs : List ℕ) (free place : ℕ) (within : free + place ≤ length xs) where
  front : (ys : List ℕ) → drop free (take (free + place) xs ++ ys) ≡ take place (drop free xs) ++ ys
  front ys =
      let count : length (take (free + place) xs) ≡ free + place = length-take-le (free + place) xs within in
      drop-append-le free (take (free + place) xs) ys (omega (arith, count)) ∙ ap (λ (zs : List ℕ). zs ++ ys) (drop-take free place xs)

  pub inserted : (x : ℕ) → drop free (insert xs (free + place) x) ≡ insert (drop free xs) place x
  inserted x = front (x ∷ drop (free + place) xs) ∙ ap (λ (zs : List ℕ). take place (drop free xs) ++ x ∷ zs) (sym (drop-drop place free xs))

  pub removed : drop free (remove xs (free + place)) ≡ remove (drop free xs) place
  removed =
      let same : suc (free + place) ≡ free + suc place = omega arith in
      front (drop (suc (free + place)) xs) ∙ ap (λ (zs : List ℕ). take place (drop free xs) ++ zs) (ap (λ (k : ℕ). drop k xs) same ∙ sym (drop-drop (suc place) free xs))
