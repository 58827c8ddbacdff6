-- A list with others in the place of one of its elements.
use Rattle.std.proofs.Common.{◌≡◌, ℕ, zero, suc, ◌<◌, List, [], ◌∷◌, ◌++◌, length, map, set, Some, refl, sym, ap, ◌∙◌, arith}
use Rattle.std.specs.Prelude.{slice_get}
use Rattle.std.specs.List.{insert, remove}
use Rattle.std.proofs.lemmas.List.{length-append, map-append}
use Rattle.std.proofs.lemmas.Option.{get_or_from_slice_get}
use Rattle.indexed_sheet.specs.Putting.{put_at}

pub put_none : {X : Type 0} (n : ℕ) (xs : List X) → remove xs n ≡ put_at n [] xs
put_none zero [] = refl
put_none (suc n) [] = refl
put_none zero (x ∷ xs) = refl
put_none {X} (suc n) (x ∷ xs) = ap (λ (ys : List X). x ∷ ys) (put_none n xs)

pub put_one : {X : Type 0} (n : ℕ) (y : X) (xs : List X) → set xs n y ≡ put_at n (y ∷ []) xs
put_one n y [] = refl
put_one zero y (x ∷ xs) = refl
put_one {X} (suc n) y (x ∷ xs) = ap (λ (ys : List X). x ∷ ys) (put_one n y xs)

pub put_two : {X : Type 0} (n : ℕ) (y z : X) (xs : List X) → n < length xs → insert (set xs n y) n z ≡ put_at n (z ∷ y ∷ []) xs
put_two n y z [] within = absurd (omega (arith, within))
put_two zero y z (x ∷ xs) within = refl
put_two {X} (suc n) y z (x ∷ xs) within = ap (λ (ys : List X). x ∷ ys) (put_two n y z xs (omega (arith, within)))

-- lists of one length are so with as many elements put in
pub put_length : {X Y : Type 0} (n : ℕ) (by : List X) (made : List Y) (xs : List X) (ys : List Y) → length made ≡ length by → length ys ≡ length xs →
    length (put_at n made ys) ≡ length (put_at n by xs)
put_length n by made [] [] many same = refl
put_length n by made [] (y ∷ ys) many same = absurd (let e : suc (length ys) ≡ 0 = same in omega (arith, e))
put_length n by made (x ∷ xs) [] many same = absurd (let e : 0 ≡ suc (length xs) = same in omega (arith, e))
put_length zero by made (x ∷ xs) (y ∷ ys) many same =
    let e : suc (length ys) ≡ suc (length xs) = same in
    omega (arith, e, many, length-append made ys, length-append by xs)
put_length (suc n) by made (x ∷ xs) (y ∷ ys) many same =
    let e : suc (length ys) ≡ suc (length xs) = same in
    ap suc (put_length n by made xs ys many (omega (arith, e)))

-- what is said of each element is said of those put in
pub put_map : {X Y : Type 0} (f : X → Y) (n : ℕ) (by xs : List X) → put_at n (map f by) (map f xs) ≡ map f (put_at n by xs)
put_map f n by [] = refl
put_map f zero by (x ∷ xs) = sym (map-append f by xs)
put_map {X} {Y} f (suc n) by (x ∷ xs) = ap (λ (ys : List Y). f x ∷ ys) (put_map f n by xs)

-- so is what is said of each where one is taken out
pub put_none_map : {X Y : Type 0} (f : X → Y) (n : ℕ) (xs : List X) → map f (put_at n [] xs) ≡ remove (map f xs) n
put_none_map f n xs = sym (put_map f n [] xs) ∙ sym (put_none n (map f xs))

-- and where one stands in the place of another one of which the same is said
pub put_one_map : {X Y : Type 0} (f : X → Y) (n : ℕ) (y z : X) (xs : List X) → slice_get xs n ≡ Some z → f z ≡ f y → map f (put_at n (y ∷ []) xs) ≡ map f xs
put_one_map f n y z [] at same = refl
put_one_map {X} {Y} f zero y z (x ∷ xs) at same =
    let e : x ≡ z = get_or_from_slice_get (x ∷ xs) 0 z z at in
    ap (λ (i : Y). i ∷ map f xs) (sym (ap f e ∙ same))
put_one_map {X} {Y} f (suc n) y z (x ∷ xs) at same = ap (λ (ys : List Y). f x ∷ ys) (put_one_map f n y z xs at same)

-- what stood in the place does not count
pub put_over : {X : Type 0} (n : ℕ) (by : List X) (p : X) (xs : List X) → put_at n by (set xs n p) ≡ put_at n by xs
put_over n by p [] = refl
put_over zero by p (x ∷ xs) = refl
put_over {X} (suc n) by p (x ∷ xs) = ap (λ (ys : List X). x ∷ ys) (put_over n by p xs)

pub put_over_both : {X : Type 0} (x y : ℕ) (above below : List X) (p q : X) (xs : List X) → x < y →
    put_at x above (put_at y below (set (set xs x p) y q)) ≡ put_at x above (put_at y below xs)
put_over_both x y above below p q [] less = refl
put_over_both x zero above below p q (z ∷ xs) less = absurd (omega (arith, less))
put_over_both {X} zero (suc y) above below p q (z ∷ xs) less = ap (λ (ys : List X). above ++ ys) (put_over y below q xs)
put_over_both {X} (suc x) (suc y) above below p q (z ∷ xs) less = ap (λ (ys : List X). z ∷ ys) (put_over_both x y above below p q xs (omega (arith, less)))

-- what stands above is within the list behind it
pub put_within : {X : Type 0} (x y : ℕ) (by xs : List X) → x < y → y < length xs → x < length (put_at y by xs)
put_within x y by [] less within = absurd (omega (arith, within))
put_within x zero by (z ∷ xs) less within = absurd (omega (arith, less))
put_within zero (suc y) by (z ∷ xs) less within = omega arith
put_within (suc x) (suc y) by (z ∷ xs) less within =
    let h : x < length (put_at y by xs) = put_within x y by xs (omega (arith, less)) (omega (arith, within)) in omega (arith, h)
