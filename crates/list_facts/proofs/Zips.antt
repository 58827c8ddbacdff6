-- What two lists have in common whose elements agree place by place.
use Rattle.std.proofs.Common.{◌≡◌, ℕ, zero, suc, ◌+◌, Bool, true, false, not, List, [], ◌∷◌, ◌++◌, length, map, take, drop, Option, Some, None, refl, sym, ◌∙◌, ap, arith}
use Rattle.std.proofs.lemmas.Bool.{true≢false, false≢true}
use Rattle.std.specs.Prelude.{⊤, ◌||◌, if◌then◌else◌}
use Rattle.std.specs.List.{AllZip, position_or_len, before_first, after_first, slice_split, onto_first, list_any, filter_map, cons_option}

-- two tests answer the same for elements that agree
abbrev pub Agree : {A B : Type 0} → (A → B → Type 0) → (A → Bool) → (B → Bool) → Type 0
Agree {A} {B} R p q = (y : A) (x : B) → R y x → p y ≡ q x

pub zip_length : {A B : Type 0} (R : A → B → Type 0) (ys : List A) (xs : List B) → AllZip R ys xs → length ys ≡ length xs
zip_length R [] [] z = refl
zip_length R [] (x ∷ xs) z = absurd z
zip_length R (y ∷ ys) [] z = absurd z
zip_length R (y ∷ ys) (x ∷ xs) z = ap suc (zip_length R ys xs z.1)

pub zip_position : {A B : Type 0} (R : A → B → Type 0) (p : A → Bool) (q : B → Bool) → Agree R p q
    → (ys : List A) (xs : List B) → AllZip R ys xs → position_or_len p ys ≡ position_or_len q xs
zip_position R p q h [] [] z = refl
zip_position R p q h [] (x ∷ xs) z = absurd z
zip_position R p q h (y ∷ ys) [] z = absurd z
zip_position R p q h (y ∷ ys) (x ∷ xs) z =
    ap (λ (b : Bool). if not b then 1 + position_or_len p ys else 0) (h y x z.0)
    ∙ ap (λ (n : ℕ). if not (q x) then 1 + n else 0) (zip_position R p q h ys xs z.1)

pub zip_any : {A B : Type 0} (R : A → B → Type 0) (p : A → Bool) (q : B → Bool) → Agree R p q
    → (ys : List A) (xs : List B) → AllZip R ys xs → list_any p ys ≡ list_any q xs
zip_any R p q h [] [] z = refl
zip_any R p q h [] (x ∷ xs) z = absurd z
zip_any R p q h (y ∷ ys) [] z = absurd z
zip_any R p q h (y ∷ ys) (x ∷ xs) z =
    ap (λ (b : Bool). b || list_any p ys) (h y x z.0) ∙ ap (λ (b : Bool). q x || b) (zip_any R p q h ys xs z.1)

pub zip_take : {A B : Type 0} (R : A → B → Type 0) (n : ℕ) (ys : List A) (xs : List B) → AllZip R ys xs → AllZip R (take n ys) (take n xs)
zip_take R zero ys xs z = tt
zip_take R (suc n) [] [] z = tt
zip_take R (suc n) [] (x ∷ xs) z = absurd z
zip_take R (suc n) (y ∷ ys) [] z = absurd z
zip_take R (suc n) (y ∷ ys) (x ∷ xs) z = (z.0, zip_take R n ys xs z.1)

pub zip_drop : {A B : Type 0} (R : A → B → Type 0) (n : ℕ) (ys : List A) (xs : List B) → AllZip R ys xs → AllZip R (drop n ys) (drop n xs)
zip_drop R zero ys xs z = z
zip_drop R (suc n) [] [] z = tt
zip_drop R (suc n) [] (x ∷ xs) z = absurd z
zip_drop R (suc n) (y ∷ ys) [] z = absurd z
zip_drop R (suc n) (y ∷ ys) (x ∷ xs) z = zip_drop R n ys xs z.1

pub zip_before : {A B : Type 0} (R : A → B → Type 0) (p : A → Bool) (q : B → Bool) → Agree R p q
    → (ys : List A) (xs : List B) → AllZip R ys xs → AllZip R (before_first p ys) (before_first q xs)
zip_before R p q h ys xs z = rw (zip_position R p q h ys xs z) (zip_take R (position_or_len q xs) ys xs z)

pub zip_after : {A B : Type 0} (R : A → B → Type 0) (p : A → Bool) (q : B → Bool) → Agree R p q
    → (ys : List A) (xs : List B) → AllZip R ys xs → AllZip R (after_first p ys) (after_first q xs)
zip_after R p q h ys xs z = rw (zip_position R p q h ys xs z) (zip_drop R (position_or_len q xs + 1) ys xs z)

pub zip_onto : {A B : Type 0} (R : A → B → Type 0) (y : A) (x : B) (yss : List (List A)) (xss : List (List B))
    → R y x → AllZip (AllZip R) yss xss → AllZip (AllZip R) (onto_first y yss) (onto_first x xss)
zip_onto R y x [] [] r z = ((r, tt), tt)
zip_onto R y x [] (xs ∷ xss) r z = absurd z
zip_onto R y x (ys ∷ yss) [] r z = absurd z
zip_onto R y x (ys ∷ yss) (xs ∷ xss) r z = ((r, z.0), z.1)

pub zip_split : {A B : Type 0} (R : A → B → Type 0) (p : A → Bool) (q : B → Bool) → Agree R p q
    → (ys : List A) (xs : List B) → AllZip R ys xs → AllZip (AllZip R) (slice_split p ys) (slice_split q xs)
zip_split R p q h [] [] z = (tt, tt)
zip_split R p q h [] (x ∷ xs) z = absurd z
zip_split R p q h (y ∷ ys) [] z = absurd z
zip_split R p q h (y ∷ ys) (x ∷ xs) z = which (p y) (q x) (h y x z.0) (zip_split R p q h ys xs z.1)
  where
    which : (b c : Bool) → b ≡ c → AllZip (AllZip R) (slice_split p ys) (slice_split q xs)
        → AllZip (AllZip R) (if b then [] ∷ slice_split p ys else onto_first y (slice_split p ys)) (if c then [] ∷ slice_split q xs else onto_first x (slice_split q xs))
    which true true e later = (tt, later)
    which false false e later = zip_onto R y x (slice_split p ys) (slice_split q xs) z.0 later
    which true false e later = absurd (true≢false e)
    which false true e later = absurd (false≢true e)

-- both are there and agree, or neither is
abbrev pub AreBoth : {A B : Type 0} → (A → B → Type 0) → Option A → Option B → Type 0
AreBoth R None None = ⊤
AreBoth R None (Some x) = ⊥
AreBoth R (Some y) None = ⊥
AreBoth R (Some y) (Some x) = R y x

-- what is made of elements that agree
pub zip_filter_map : {A B C D : Type 0} (R : A → B → Type 0) (S : C → D → Type 0) (f : A → Option C) (g : B → Option D)
    → ((y : A) (x : B) → R y x → AreBoth S (f y) (g x)) → (ys : List A) (xs : List B) → AllZip R ys xs → AllZip S (filter_map f ys) (filter_map g xs)
zip_filter_map R S f g h [] [] z = tt
zip_filter_map R S f g h [] (x ∷ xs) z = absurd z
zip_filter_map R S f g h (y ∷ ys) [] z = absurd z
zip_filter_map {C = C} {D = D} R S f g h (y ∷ ys) (x ∷ xs) z = which (f y) (g x) (h y x z.0) (zip_filter_map R S f g h ys xs z.1)
  where
    which : (a : Option C) (b : Option D) → AreBoth S a b → AllZip S (filter_map f ys) (filter_map g xs)
        → AllZip S (cons_option a (filter_map f ys)) (cons_option b (filter_map g xs))
    which None None both later = later
    which None (Some x) both later = absurd both
    which (Some y) None both later = absurd both
    which (Some y) (Some x) both later = (both, later)

abbrev head_or : {A : Type 0} → A → List A → A
head_or d [] = d
head_or d (x ∷ xs) = x

pub cons_head : {A : Type 0} (x y : A) (xs ys : List A) → x ∷ xs ≡ y ∷ ys → x ≡ y
cons_head x y xs ys e = ap (head_or x) e

pub cons_tail : {A : Type 0} (x y : A) (xs ys : List A) → x ∷ xs ≡ y ∷ ys → xs ≡ ys
cons_tail x y xs ys e = ap (drop 1) e

pub cons_not_empty : {A : Type 0} (x : A) (xs : List A) → x ∷ xs ≡ [] → ⊥
cons_not_empty x xs e = absurd (omega (arith, ap length e))

-- R holds of the elements place by place, and L of the last ones
abbrev pub AllLast : {A B : Type 0} → (A → B → Type 0) → (A → B → Type 0) → List A → List B → Type 0
AllLast R L [] [] = ⊤
AllLast R L [] (x ∷ xs) = ⊥
AllLast R L (y ∷ ys) [] = ⊥
AllLast R L (y ∷ []) (x ∷ []) = L y x
AllLast R L (y ∷ []) (x ∷ next ∷ xs) = ⊥
AllLast R L (y ∷ next ∷ ys) (x ∷ []) = ⊥
AllLast R L (y ∷ after ∷ ys) (x ∷ next ∷ xs) = R y x × AllLast R L (after ∷ ys) (next ∷ xs)

pub zip_from_last : {A B : Type 0} (R L Q : A → B → Type 0) → ((y : A) (x : B) → R y x → Q y x) → ((y : A) (x : B) → L y x → Q y x)
    → (ys : List A) (xs : List B) → AllLast R L ys xs → AllZip Q ys xs
zip_from_last R L Q r l [] [] z = tt
zip_from_last R L Q r l [] (x ∷ xs) z = absurd z
zip_from_last R L Q r l (y ∷ ys) [] z = absurd z
zip_from_last R L Q r l (y ∷ []) (x ∷ []) z = (l y x z, tt)
zip_from_last R L Q r l (y ∷ []) (x ∷ next ∷ xs) z = absurd z
zip_from_last R L Q r l (y ∷ next ∷ ys) (x ∷ []) z = absurd z
zip_from_last R L Q r l (y ∷ after ∷ ys) (x ∷ next ∷ xs) z = (r y x z.0, zip_from_last R L Q r l (after ∷ ys) (next ∷ xs) z.1)

pub last_from_zip : {A B : Type 0} (R : A → B → Type 0) (ys : List A) (xs : List B) → AllZip R ys xs → AllLast R R ys xs
last_from_zip R [] [] z = tt
last_from_zip R [] (x ∷ xs) z = absurd z
last_from_zip R (y ∷ ys) [] z = absurd z
last_from_zip R (y ∷ []) (x ∷ []) z = z.0
last_from_zip R (y ∷ []) (x ∷ next ∷ xs) z = absurd z.1
last_from_zip R (y ∷ next ∷ ys) (x ∷ []) z = absurd z.1
last_from_zip R (y ∷ after ∷ ys) (x ∷ next ∷ xs) z = (z.0, last_from_zip R (after ∷ ys) (next ∷ xs) z.1)

pub zip_map : {A B : Type 0} (R Q : A → B → Type 0) → ((y : A) (x : B) → R y x → Q y x) → (ys : List A) (xs : List B) → AllZip R ys xs → AllZip Q ys xs
zip_map R Q h [] [] z = tt
zip_map R Q h [] (x ∷ xs) z = absurd z
zip_map R Q h (y ∷ ys) [] z = absurd z
zip_map R Q h (y ∷ ys) (x ∷ xs) z = (h y x z.0, zip_map R Q h ys xs z.1)

-- elements that are shown alike
pub zip_from_maps : {A B C : Type 0} (f : A → C) (g : B → C) (ys : List A) (xs : List B) → map f ys ≡ map g xs → AllZip (λ y x. f y ≡ g x) ys xs
zip_from_maps f g [] [] e = tt
zip_from_maps f g [] (x ∷ xs) e = absurd (cons_not_empty (g x) (map g xs) (sym e))
zip_from_maps f g (y ∷ ys) [] e = absurd (cons_not_empty (f y) (map f ys) e)
zip_from_maps f g (y ∷ ys) (x ∷ xs) e =
    (cons_head (f y) (g x) (map f ys) (map g xs) e, zip_from_maps f g ys xs (cons_tail (f y) (g x) (map f ys) (map g xs) e))

-- a list that is shown as two lists, one behind the other
pub record IsCut {A C : Type 0} (f : A → C) (ys : List A) (front behind : List C) : Type 0 where
  pub upper : List A
  pub lower : List A
  pub whole : ys ≡ upper ++ lower
  pub is_front : map f upper ≡ front
  pub is_behind : map f lower ≡ behind

pub cut_at : {A C : Type 0} (f : A → C) (ys : List A) (front behind : List C) → map f ys ≡ front ++ behind → IsCut f ys front behind
cut_at f ys [] behind e = record { upper = []; lower = ys; whole = refl; is_front = refl; is_behind = e }
cut_at f [] (s ∷ front) behind e = absurd (cons_not_empty s (front ++ behind) (sym e))
cut_at {C = C} f (y ∷ ys) (s ∷ front) behind e =
    let rest = cut_at f ys front behind (cons_tail (f y) s (map f ys) (front ++ behind) e) in
    record {
      upper = y ∷ rest.upper;
      lower = rest.lower;
      whole = ap (λ zs. y ∷ zs) rest.whole;
      is_front = ap (λ (t : C). t ∷ map f rest.upper) (cons_head (f y) s (map f ys) (front ++ behind) e) ∙ ap (λ zs. s ∷ zs) rest.is_front;
      is_behind = rest.is_behind;
    }

pub some_not_none : {A : Type 0} (x : A) → Some x ≡ None → ⊥
some_not_none x e = absurd (cc)
