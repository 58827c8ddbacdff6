-- What is left of a list behind its spare places.
use Rattle.std.proofs.Common.{◌≡◌, ℕ, zero, suc, ◌+◌, ◌<◌, ◌≤◌, ◌∙◌, Bool, true, false, List, [], ◌∷◌, length, drop, set, refl, sym, ap, arith, if◌then◌else◌}
use Rattle.std.proofs.lemmas.List.{drop-set-lt}
use Rattle.std.specs.Prelude.{slice_get, Some}
use Rattle.std.specs.List.{insert, remove}
use Rattle.spare_list.specs.Moved.{IsMoved}

pub slice_get-drop : {X : Type 0} (n : ℕ) (xs : List X) (i j : ℕ) → j ≡ n + i → slice_get (drop n xs) i ≡ slice_get xs j
slice_get-drop zero xs i j is = ap (slice_get xs) (omega arith)
slice_get-drop (suc n) [] i j is = refl
slice_get-drop (suc n) (x ∷ xs) i zero is = absurd (omega arith)
slice_get-drop (suc n) (x ∷ xs) i (suc j) is = slice_get-drop n xs i j (omega arith)

slice_get-set : {X : Type 0} (xs : List X) (i : ℕ) (x : X) → i < length xs → slice_get (set xs i x) i ≡ Some x
slice_get-set [] i x h = absurd (omega arith)
slice_get-set (y ∷ xs) zero x h = refl
slice_get-set (y ∷ xs) (suc i) x h = slice_get-set xs i x (omega arith)

drop-remove_at : {X : Type 0} (n : ℕ) (xs : List X) → drop n (remove xs n) ≡ drop (suc n) xs
drop-remove_at zero [] = refl
drop-remove_at zero (x ∷ xs) = refl
drop-remove_at (suc n) [] = refl
drop-remove_at (suc n) (x ∷ xs) = drop-remove_at n xs

pub drop-remove_above : {X : Type 0} (n : ℕ) (xs : List X) (i j : ℕ) → j ≡ n + i → drop n (remove xs j) ≡ remove (drop n xs) i
drop-remove_above zero xs i j is = ap (remove xs) (omega arith)
drop-remove_above (suc n) [] i zero is = absurd (omega arith)
drop-remove_above (suc n) [] zero (suc j) is = refl
drop-remove_above (suc n) [] (suc i) (suc j) is = refl
drop-remove_above (suc n) (x ∷ xs) i zero is = absurd (omega arith)
drop-remove_above (suc n) (x ∷ xs) i (suc j) is = drop-remove_above n xs i j (omega arith)

drop-insert_above : {X : Type 0} (n : ℕ) (xs : List X) (i j : ℕ) (x : X) → j ≡ n + i → n ≤ length xs → drop n (insert xs j x) ≡ insert (drop n xs) i x
drop-insert_above zero xs i j x is h = ap (λ k. insert xs k x) (omega arith)
drop-insert_above (suc n) [] i j x is h = absurd (omega arith)
drop-insert_above (suc n) (y ∷ xs) i zero x is h = absurd (omega arith)
drop-insert_above (suc n) (y ∷ xs) i (suc j) x is h = drop-insert_above n xs i j x (omega arith) (omega arith)

insert-remove : {X : Type 0} (xs : List X) (i : ℕ) (x : X) → slice_get xs i ≡ Some x → xs ≡ insert (remove xs i) i x
insert-remove [] i x is = cc
insert-remove (a ∷ xs) zero x is = let same : a ≡ x = cc in ap (λ y. y ∷ xs) same
insert-remove (a ∷ xs) (suc i) x is = ap (λ l. a ∷ l) (insert-remove xs i x is)

-- an element that was moved to the front gives its place to a spare one
pub removed_at_front : {X : Type 0} (old new : List X) (first at from behind : ℕ) (filler : X) → from ≡ first + at → behind ≡ suc first → IsMoved old new from first
    → drop behind (set new first filler) ≡ remove (drop first old) at
removed_at_front old new first at from behind filler is next moved =
    rw next (drop-set-lt (suc first) new first filler (omega arith)
    ∙ sym (drop-remove_at first new)
    ∙ ap (drop first) moved.others
    ∙ drop-remove_above first old at from is)

-- a spare place takes an element, which is moved to its place
pub inserted_at_front : {X : Type 0} (old new : List X) (spare at to first : ℕ) (value : X) → to ≡ spare + at → first ≡ suc spare → first ≤ length old
    → IsMoved (set old spare value) new spare to → drop spare new ≡ insert (drop first old) at value
inserted_at_front old new spare at to first value is next within moved =
    let there : slice_get (drop spare new) at ≡ Some value =
    slice_get-drop spare new at to is ∙ moved.moved ∙ slice_get-set old spare value (omega (arith, within, next)) in
    let others : remove (drop spare new) at ≡ drop (suc spare) old =
    sym (drop-remove_above spare new at to is) ∙ ap (drop spare) moved.others ∙ drop-remove_at spare (set old spare value) ∙ drop-set-lt (suc spare) old spare value (omega arith) in
    rw next (insert-remove (drop spare new) at value there ∙ ap (λ l. insert l at value) others)

-- an element is put in, or nothing is
pub inserted_or_not : {X : Type 0} (b : Bool) (n : ℕ) (xs : List X) (i j : ℕ) (x : X) → j ≡ n + i → n ≤ length xs
    → drop n (if b then insert xs j x else xs) ≡ (if b then insert (drop n xs) i x else drop n xs)
inserted_or_not true n xs i j x is h = drop-insert_above n xs i j x is h
inserted_or_not false n xs i j x is h = refl
