-- Where the elements stand that are left when others are put in.
use Rattle.std.proofs.Common.{◌≡◌, ◌≢◌, ◌⊎◌, ℕ, zero, suc, ◌+◌, ◌-◌, ◌<◌, ◌≤◌, List, [], ◌∷◌, ◌++◌, length, take, Some, None, refl, sym, ap, ◌∙◌, subst, inl, inr, arith}
use Rattle.std.specs.Prelude.{slice_get}
use Rattle.std.specs.List.{All}
use Rattle.std.proofs.Math.Seq.{take-append-add}
use Rattle.std.proofs.lemmas.List.{length-append, length-take-le}
use Rattle.std.proofs.lemmas.Option.{slice_get_within, get_or_from_slice_get}
use Rattle.indexed_sheet.specs.Putting.{put_at}

-- the number that the element of number `k` has behind it
abbrev pub number_behind : {X : Type 0} → ℕ → List X → List X → ℕ → ℕ
number_behind n by xs k = length (put_at n by (take k xs))

which_less : (m n : ℕ) → (m < n) ⊎ (n ≤ m)
which_less zero zero = inr (omega arith)
which_less zero (suc n) = inl (omega arith)
which_less (suc m) zero = inr (omega arith)
which_less (suc m) (suc n) = which (which_less m n)
  where
    which : (m < n) ⊎ (n ≤ m) → (suc m < suc n) ⊎ (suc n ≤ suc m)
    which (inl h) = inl (omega (arith, h))
    which (inr h) = inr (omega (arith, h))

get_front : {X : Type 0} (xs ys : List X) (k : ℕ) → k < length xs → slice_get (xs ++ ys) k ≡ slice_get xs k
get_front [] ys k within = absurd (omega (arith, within))
get_front (x ∷ xs) ys zero within = refl
get_front (x ∷ xs) ys (suc k) within = get_front xs ys k (omega (arith, within))

get_behind : {X : Type 0} (xs ys : List X) (k n : ℕ) → n ≡ length xs + k → slice_get (xs ++ ys) n ≡ slice_get ys k
get_behind [] ys k n is = ap (slice_get ys) (let e : n ≡ k = omega (arith, is) in e)
get_behind (x ∷ xs) ys k zero is = absurd (omega (arith, is))
get_behind (x ∷ xs) ys k (suc n) is = get_behind xs ys k n (omega (arith, is))

-- ---- One place

-- what is left stands at its new number
pub stays : {X Y : Type 0} (n k : ℕ) (by : List X) (made : List Y) (xs : List X) (ys : List Y) (m : Y) → length made ≡ length by → length ys ≡ length xs →
    n ≢ k → slice_get ys k ≡ Some m → slice_get (put_at n made ys) (number_behind n by xs k) ≡ Some m
stays n k by made xs [] m many same apart at = absurd (let e : None ≡ Some m = at in cc)
stays n k by made [] (y ∷ ys) m many same apart at = absurd (let e : suc (length ys) ≡ 0 = same in omega (arith, e))
stays zero zero by made (x ∷ xs) (y ∷ ys) m many same apart at = absurd (apart refl)
stays zero (suc k) by made (x ∷ xs) (y ∷ ys) m many same apart at =
    let e : suc (length ys) ≡ suc (length xs) = same in
    let within : k < length ys = slice_get_within ys k m at in
    let whole : length (take k xs) ≡ k = length-take-le k xs (omega (arith, within, e)) in
    get_behind made ys k (length (by ++ take k xs)) (omega (arith, length-append by (take k xs), whole, many)) ∙ at
stays (suc n) zero by made (x ∷ xs) (y ∷ ys) m many same apart at = at
stays (suc n) (suc k) by made (x ∷ xs) (y ∷ ys) m many same apart at =
    let e : suc (length ys) ≡ suc (length xs) = same in
    stays n k by made xs ys m many (omega (arith, e)) (λ h. apart (ap suc h)) at

-- an element that was left, of this number before
pub record WasLeft {X Y : Type 0} (n : ℕ) (by xs : List X) (ys : List Y) (j : ℕ) (m : Y) : Type 0 where
  pub number : ℕ
  pub apart : n ≢ number
  pub at : slice_get ys number ≡ Some m
  pub is : j ≡ number_behind n by xs number

holds_of : {Y : Type 0} (P : Y → Type 0) (ys : List Y) (k : ℕ) (m : Y) → All P ys → slice_get ys k ≡ Some m → P m
holds_of P ys k m all at = subst P (get_or_from_slice_get ys k m m at) (all k m (slice_get_within ys k m at))

-- each is new or was left
pub is_new_or_left : {X Y : Type 0} (P : Y → Type 0) (n j : ℕ) (by : List X) (made : List Y) (xs : List X) (ys : List Y) (m : Y) → length made ≡ length by → length ys ≡ length xs →
    All P made → slice_get (put_at n made ys) j ≡ Some m → P m ⊎ WasLeft n by xs ys j m
is_new_or_left P n j by made xs [] m many same all at = absurd (let e : None ≡ Some m = at in cc)
is_new_or_left P n j by made [] (y ∷ ys) m many same all at = absurd (let e : suc (length ys) ≡ 0 = same in omega (arith, e))
is_new_or_left P zero j by made (x ∷ xs) (y ∷ ys) m many same all at = which (which_less j (length made))
  where
    which : (j < length made) ⊎ (length made ≤ j) → P m ⊎ WasLeft zero by (x ∷ xs) (y ∷ ys) j m
    which (inl front) = inl (holds_of P made j m all (sym (get_front made ys j front) ∙ at))
    which (inr behind) =
        let k : ℕ = j - length made in
        let j_is : j ≡ length made + k = omega (arith, behind) in
        let found : slice_get ys k ≡ Some m = sym (get_behind made ys k j j_is) ∙ at in
        let e : suc (length ys) ≡ suc (length xs) = same in
        let within : k < length ys = slice_get_within ys k m found in
        let whole : length (take k xs) ≡ k = length-take-le k xs (omega (arith, within, e)) in
        inr (record { number = suc k; apart = (λ h. absurd (let f : 0 ≡ suc k = h in omega (arith, f))); at = found; is = omega (arith, j_is, length-append by (take k xs), whole, many) })
is_new_or_left P (suc n) zero by made (x ∷ xs) (y ∷ ys) m many same all at =
    inr (record { number = 0; apart = (λ h. absurd (let f : suc n ≡ 0 = h in omega (arith, f))); at = at; is = refl })
is_new_or_left P (suc n) (suc j) by made (x ∷ xs) (y ∷ ys) m many same all at =
    let e : suc (length ys) ≡ suc (length xs) = same in
    which (is_new_or_left P n j by made xs ys m many (omega (arith, e)) all at)
  where
    which : P m ⊎ WasLeft n by xs ys j m → P m ⊎ WasLeft (suc n) by (x ∷ xs) (y ∷ ys) (suc j) m
    which (inl new) = inl new
    which (inr w) = inr (record { number = suc w.number; apart = (λ h. w.apart (let f : suc n ≡ suc w.number = h in omega (arith, f))); at = w.at; is = ap suc w.is })

-- ---- Two places

take_whole : {X : Type 0} (k : ℕ) (xs : List X) → take (length (take k xs)) xs ≡ take k xs
take_whole zero xs = refl
take_whole (suc k) [] = refl
take_whole {X} (suc k) (x ∷ xs) = ap (λ (ys : List X). x ∷ ys) (take_whole k xs)

-- the first elements behind it are those that stood before the new number
take_put : {X : Type 0} (n k : ℕ) (by xs : List X) → n ≢ k → take (number_behind n by xs k) (put_at n by xs) ≡ put_at n by (take k xs)
take_put n zero by [] apart = refl
take_put n (suc k) by [] apart = refl
take_put zero zero by (x ∷ xs) apart = absurd (apart refl)
take_put {X} zero (suc k) by (x ∷ xs) apart =
    ap (λ (i : ℕ). take i (by ++ xs)) (length-append by (take k xs)) ∙ take-append-add by xs (length (take k xs)) ∙ ap (λ (ys : List X). by ++ ys) (take_whole k xs)
take_put (suc n) zero by (x ∷ xs) apart = refl
take_put {X} (suc n) (suc k) by (x ∷ xs) apart = ap (λ (ys : List X). x ∷ ys) (take_put n k by xs (λ h. apart (ap suc h)))

-- what stands above keeps its number, and what stands below stays below
number_above : {X : Type 0} (n k : ℕ) (by xs : List X) → k < n → k ≤ length xs → number_behind n by xs k ≡ k
number_above n zero by [] less within = refl
number_above n (suc k) by [] less within = absurd (omega (arith, within))
number_above zero k by (x ∷ xs) less within = absurd (omega (arith, less))
number_above (suc n) zero by (x ∷ xs) less within = refl
number_above (suc n) (suc k) by (x ∷ xs) less within = ap suc (number_above n k by xs (omega (arith, less)) (omega (arith, within)))

number_below : {X : Type 0} (n k : ℕ) (by xs : List X) → n < k → k ≤ length xs → n ≤ number_behind n by xs k
number_below n k by [] less within = absurd (omega (arith, less, within))
number_below zero k by (x ∷ xs) less within = omega arith
number_below (suc n) zero by (x ∷ xs) less within = absurd (omega (arith, less))
number_below (suc n) (suc k) by (x ∷ xs) less within =
    let h : n ≤ number_behind n by xs k = number_below n k by xs (omega (arith, less)) (omega (arith, within)) in omega (arith, h)

number_apart : {X : Type 0} (x y k : ℕ) (by xs : List X) → x < y → x ≢ k → y ≢ k → k ≤ length xs → x ≢ number_behind y by xs k
number_apart x y k by xs less apart apart' within = which (which_less k y)
  where
    which : (k < y) ⊎ (y ≤ k) → x ≢ number_behind y by xs k
    which (inl above) = λ h. apart (h ∙ number_above y k by xs above within)
    which (inr below) =
        let further : y < k = (let ne : y ≢ k = apart' in omega (arith, below, ne)) in
        let least : y ≤ number_behind y by xs k = number_below y k by xs further within in
        λ h. absurd (let e : x ≡ number_behind y by xs k = h in omega (arith, e, least, less))

-- the number behind both
abbrev pub number_behind_both : {X : Type 0} → ℕ → List X → ℕ → List X → List X → ℕ → ℕ
number_behind_both x above y below xs k = length (put_at x above (put_at y below (take k xs)))

abbrev pub IsWithin : {Y : Type 0} → List Y → ℕ → Type 0
IsWithin ys k = k < length ys

pub both_stay : {X Y : Type 0} (x y k : ℕ) (above below : List X) (made made' : List Y) (xs : List X) (ys : List Y) (m : Y) →
    length made ≡ length above → length made' ≡ length below → length (put_at y made' ys) ≡ length (put_at y below xs) → length ys ≡ length xs → x < y →
    x ≢ k → y ≢ k → slice_get ys k ≡ Some m → slice_get (put_at x made (put_at y made' ys)) (number_behind_both x above y below xs k) ≡ Some m
both_stay {X} {Y} x y k above below made made' xs ys m many many' same same' less apart apart' at =
    let within : k < length ys = slice_get_within ys k m at in
    let first : slice_get (put_at y made' ys) (number_behind y below xs k) ≡ Some m = stays y k below made' xs ys m many' same' apart' at in
    let second : slice_get (put_at x made (put_at y made' ys)) (number_behind x above (put_at y below xs) (number_behind y below xs k)) ≡ Some m =
    stays x (number_behind y below xs k) above made (put_at y below xs) (put_at y made' ys) m many same
    (number_apart x y k below xs less apart apart' (omega (arith, within, same'))) first in
    subst (λ (zs : List X). slice_get (put_at x made (put_at y made' ys)) (length (put_at x above zs)) ≡ Some m) (take_put y k below xs apart') second

pub record WasLeftOfBoth {X Y : Type 0} (x : ℕ) (above : List X) (y : ℕ) (below xs : List X) (ys : List Y) (j : ℕ) (m : Y) : Type 0 where
  pub number : ℕ
  pub apart : x ≢ number
  pub apart' : y ≢ number
  pub at : slice_get ys number ≡ Some m
  pub is : j ≡ number_behind_both x above y below xs number

pub is_new_or_left_of_both : {X Y : Type 0} (P : Y → Type 0) (x y j : ℕ) (above below : List X) (made made' : List Y) (xs : List X) (ys : List Y) (m : Y) →
    length made ≡ length above → length made' ≡ length below → length (put_at y made' ys) ≡ length (put_at y below xs) → length ys ≡ length xs → x < y →
    All P made → All P made' → slice_get (put_at x made (put_at y made' ys)) j ≡ Some m → P m ⊎ WasLeftOfBoth x above y below xs ys j m
is_new_or_left_of_both {X} {Y} P x y j above below made made' xs ys m many many' same same' less all all' at =
    outer (is_new_or_left P x j above made (put_at y below xs) (put_at y made' ys) m many same all at)
  where
    inner : (w : WasLeft x above (put_at y below xs) (put_at y made' ys) j m) → P m ⊎ WasLeft y below xs ys w.number m → P m ⊎ WasLeftOfBoth x above y below xs ys j m
    inner w (inl new) = inl new
    inner w (inr v) =
        let within : v.number < length ys = slice_get_within ys v.number m v.at in
        inr (record {
          number = v.number;
          apart = (λ h. w.apart (let e : x ≡ v.number = h in e ∙ sym (number_above y v.number below xs (omega (arith, e, less)) (omega (arith, within, same'))) ∙ sym v.is));
          apart' = v.apart;
          at = v.at;
          is = w.is ∙ ap (λ (i : ℕ). number_behind x above (put_at y below xs) i) v.is ∙ ap (λ (zs : List X). length (put_at x above zs)) (take_put y v.number below xs v.apart);
        })

    outer : P m ⊎ WasLeft x above (put_at y below xs) (put_at y made' ys) j m → P m ⊎ WasLeftOfBoth x above y below xs ys j m
    outer (inl new) = inl new
    outer (inr w) = inner w (is_new_or_left P y w.number below made' xs ys m many' same' all' w.at)
