-- What is sorted so that ties keep their order is one list: here that of members put in one by one.
use Rattle.std.proofs.Common.{◌≡◌, ℕ, suc, ◌≤◌, ◌<◌, ◌==◌, Bool, true, false, not, cond, List, [], ◌∷◌, length, get_or, refl, sym, ap, ap₂, ◌∙◌, arith}
use Rattle.std.specs.Prelude.{◌&&◌, ◌||◌, nat_lt, if◌then◌else◌}
use Rattle.std.specs.declared.cmp.Ordering.TheVariants.{Less, Equal, Greater}
use Rattle.std.specs.Cmp.{IsStrictWeakOrder}
use Rattle.std.specs.Cmp.Lexicographic.{slice_cmp, nat_list_cmp_total}
use Rattle.std.specs.List.{AllByRecursion, filter}
use Rattle.std.specs.List.Sorted.{IsSortedBy, IsStableBy, ties}
use Rattle.std.specs.Ordering.{is_lt, nat_cmp, ordering_then}
use Rattle.std.proofs.lemmas.Bool.{false≢true, and_parts}
use Rattle.std.proofs.lemmas.Bool.Decides.{nat_tests}
use Rattle.std.proofs.lemmas.List.Sorted.{ranks_by, sorted_far}
use Rattle.css_model.specs.Cascade.Winner.{exceeds}
use Rattle.sheet_same.specs.Members.{Member, Paired, KeptAt, member_key, is_behind, put_in, in_order}
use Rattle.sheet_same.proofs.Askable.{put_all}

-- ---- One list

head_is : {X : Type 0} (x y : X) (xs ys : List X) → x ∷ xs ≡ y ∷ ys → x ≡ y
head_is x y xs ys h = ap (λ zs. get_or zs 0 x) h

tail_is : {X : Type 0} (x y : X) (xs ys : List X) → x ∷ xs ≡ y ∷ ys → xs ≡ ys
tail_is {X = X} x y xs ys h = ap tail h
  where
    tail : List X → List X
    tail [] = []
    tail (z ∷ zs) = zs

not_empty : {X : Type 0} (x : X) (xs : List X) → x ∷ xs ≡ [] → ⊥
not_empty {X = X} x xs h = let e : suc (length xs) ≡ 0 = ap (λ (ys : List X). length ys) h in absurd (omega (arith, e))

module _ {X : Type 0} (lt : X → X → Bool) (order : IsStrictWeakOrder lt) where
  -- none is less than one before it
  abbrev pub Ascends : List X → Type 0
  Ascends [] = Unit {0}
  Ascends (x ∷ xs) = AllByRecursion (λ y. lt y x ≡ false) xs × Ascends xs

  not_itself : (x : X) → lt x x ≡ false
  not_itself x = which (lt x x) refl
    where
      which : (b : Bool) → lt x x ≡ b → lt x x ≡ false
      which true e = order.one_way x x e
      which false e = e

  ties_itself : (x : X) → ties lt x x ≡ true
  ties_itself x = ap (λ (b : Bool). not b && not b) (not_itself x)

  -- what ties with one and not with the other
  ties_below : (x y : X) → ties lt x y ≡ true → lt y x ≡ false
  ties_below x y h = which (lt y x) (and_parts (not (lt x y)) (not (lt y x)) h).1
    where
      which : (b : Bool) → not b ≡ true → b ≡ false
      which true e = absurd (false≢true e)
      which false e = refl

  ties_above : (x y : X) → ties lt x y ≡ true → lt x y ≡ false
  ties_above x y h = which (lt x y) (and_parts (not (lt x y)) (not (lt y x)) h).0
    where
      which : (b : Bool) → not b ≡ true → b ≡ false
      which true e = absurd (false≢true e)
      which false e = refl

  ties_of : (x y : X) → lt x y ≡ false → lt y x ≡ false → ties lt x y ≡ true
  ties_of x y h g = ap (λ (b : Bool). not b && not (lt y x)) h ∙ ap not g

  -- what is less than the first of an ascending list ties with none of it
  none_tie : (x y : X) (ys : List X) → lt x y ≡ true → AllByRecursion (λ z. lt z y ≡ false) ys → filter (ties lt x) ys ≡ []
  none_tie x y [] h all = refl
  none_tie x y (z ∷ ys) h all = ap (λ (b : Bool). if b then z ∷ filter (ties lt x) ys else filter (ties lt x) ys) not_tied ∙ none_tie x y ys h all.1
    where
      below : lt x z ≡ true
      below = which (lt x z) refl
        where
          which : (b : Bool) → lt x z ≡ b → lt x z ≡ true
          which true e = e
          which false e = absurd (false≢true (sym (order.chain x z y e all.0) ∙ h))

      not_tied : ties lt x z ≡ false
      not_tied = ap (λ (b : Bool). not b && not (lt z x)) below

  first_ties : (x y : X) (ys : List X) → ties lt x y ≡ true → filter (ties lt x) (y ∷ ys) ≡ y ∷ filter (ties lt x) ys
  first_ties x y ys h = ap (λ (b : Bool). if b then y ∷ filter (ties lt x) ys else filter (ties lt x) ys) h

  -- the first ones of two such lists tie
  not_less : (x y : X) (xs ys : List X) → Ascends (y ∷ ys) → filter (ties lt x) (x ∷ xs) ≡ filter (ties lt x) (y ∷ ys) → lt x y ≡ false
  not_less x y xs ys up h = which (lt x y) refl
    where
      which : (b : Bool) → lt x y ≡ b → lt x y ≡ false
      which true e = absurd (not_empty x (filter (ties lt x) xs) (sym (first_ties x x xs (ties_itself x)) ∙ h ∙ none_tie x y (y ∷ ys) e (not_itself y, up.0)))
      which false e = e

  rest_tie : (x z : X) (xs ys : List X) → filter (ties lt z) (x ∷ xs) ≡ filter (ties lt z) (x ∷ ys) → filter (ties lt z) xs ≡ filter (ties lt z) ys
  rest_tie x z xs ys h = which (ties lt z x) h
    where
      f : List X
      f = filter (ties lt z) xs

      g : List X
      g = filter (ties lt z) ys

      which : (b : Bool) → (if b then x ∷ f else f) ≡ (if b then x ∷ g else g) → f ≡ g
      which true e = tail_is x x f g e
      which false e = e

  pub one_list : (xs ys : List X) → Ascends xs → Ascends ys → ((x : X) → filter (ties lt x) xs ≡ filter (ties lt x) ys) → xs ≡ ys
  one_list [] [] up down same = refl
  one_list [] (y ∷ ys) up down same = absurd (not_empty y (filter (ties lt y) ys) (sym (same y ∙ first_ties y y ys (ties_itself y))))
  one_list (x ∷ xs) [] up down same = absurd (not_empty x (filter (ties lt x) xs) (sym (first_ties x x xs (ties_itself x)) ∙ same x))
  one_list (x ∷ xs) (y ∷ ys) up down same =
      let upper : lt x y ≡ false = not_less x y xs ys down (same x) in
      let lower : lt y x ≡ false = not_less y x ys xs up (sym (same y)) in
      let first : x ≡ y = head_is x y (filter (ties lt x) xs) (filter (ties lt x) ys)
      (sym (first_ties x x xs (ties_itself x)) ∙ same x ∙ first_ties x y ys (ties_of x y upper lower)) in
      ap₂ (λ (z : X) (zs : List X). z ∷ zs) first
      (one_list xs ys up.1 down.1 (λ z. rest_tie x z xs ys (same z ∙ ap (λ (w : X). filter (ties lt z) (w ∷ ys)) (sym first))))

  -- ---- What is sorted ascends

  all_at : (P : X → Type 0) (xs : List X) → ((k : ℕ) (d : X) → k < length xs → P (get_or xs k d)) → AllByRecursion P xs
  all_at P [] h = tt
  all_at P (x ∷ xs) h = (h 0 x (omega arith), all_at P xs (λ k d below. h (suc k) d (omega (arith, below))))

  ascends_at : (xs : List X) → ((i j : ℕ) (d : X) → i ≤ j → j < length xs → lt (get_or xs j d) (get_or xs i d) ≡ false) → Ascends xs
  ascends_at [] h = tt
  ascends_at (x ∷ xs) h = (
    all_at (λ y. lt y x ≡ false) xs (λ k d below. h 0 (suc k) d (omega arith) (omega (arith, below))),
    ascends_at xs (λ i j d le below. h (suc i) (suc j) d (omega (arith, le)) (omega (arith, below))),
  )

  pub sorted_ascends : (xs : List X) → IsSortedBy lt xs → Ascends xs
  sorted_ascends xs up = ascends_at xs (λ i j d le below. sorted_far lt order xs up i j d le below)

-- ---- Members

abbrev less : Member → Member → Bool
less x y = is_lt (slice_cmp nat_cmp (member_key x) (member_key y))

less_order : IsStrictWeakOrder less
less_order = ranks_by nat_list_cmp_total member_key

exceeds_is : (xs ys : List ℕ) → length xs ≡ length ys → exceeds xs ys ≡ is_lt (slice_cmp nat_cmp ys xs)
exceeds_is [] [] h = refl
exceeds_is [] (y ∷ ys) h = absurd (omega (arith, h))
exceeds_is (x ∷ xs) [] h = absurd (omega (arith, h))
exceeds_is (x ∷ xs) (y ∷ ys) h = which (nat_lt y x) (y == x) (x == y) (both_ways x y) (exceeds_is xs ys (omega (arith, h)))
  where
    both_ways : (m n : ℕ) → (m == n) ≡ (n == m)
    both_ways m n = grind (arith, nat_tests)

    which : (below same back : Bool) → back ≡ same → exceeds xs ys ≡ is_lt (slice_cmp nat_cmp ys xs) →
        (below || back && exceeds xs ys) ≡ is_lt (ordering_then (cond below Less (cond same Equal Greater)) (slice_cmp nat_cmp ys xs))
    which true same back e ih = refl
    which false true true e ih = ih
    which false false false e ih = refl
    which false true false e ih = absurd (false≢true e)
    which false false true e ih = absurd (false≢true (sym e))

behind_is : (m x : Member) → is_behind m x ≡ less x m
behind_is (Paired x) (Paired y) = exceeds_is (member_key (Paired x)) (member_key (Paired y)) refl
behind_is (Paired x) (KeptAt n item) = exceeds_is (member_key (Paired x)) (member_key (KeptAt n item)) refl
behind_is (KeptAt n item) (Paired y) = exceeds_is (member_key (KeptAt n item)) (member_key (Paired y)) refl
behind_is (KeptAt n item) (KeptAt k other) = exceeds_is (member_key (KeptAt n item)) (member_key (KeptAt k other)) refl

put_ascends : (m : Member) (xs : List Member) → Ascends less less_order xs → Ascends less less_order (put_in m xs)
put_ascends m [] up = (tt, tt)
put_ascends m (x ∷ xs) up = which (is_behind m x) (behind_is m x) (put_ascends m xs up.1)
  where
    behind_all : (xs : List Member) → less x m ≡ false → AllByRecursion (λ y. less y x ≡ false) xs → AllByRecursion (λ y. less y m ≡ false) xs
    behind_all [] h all = tt
    behind_all (y ∷ ys) h all = (less_order.chain y x m all.0 h, behind_all ys h all.1)

    which : (b : Bool) → b ≡ less x m → Ascends less less_order (put_in m xs) → Ascends less less_order (if b then x ∷ put_in m xs else m ∷ x ∷ xs)
    which true e ih = (put_all (λ y. less y x ≡ false) m xs (less_order.one_way x m (sym e)) up.0, ih)
    which false e ih = ((sym e, behind_all xs (sym e) up.0), up)

order_ascends : (ms : List Member) → Ascends less less_order (in_order ms)
order_ascends [] = tt
order_ascends (m ∷ ms) = put_ascends m (in_order ms) (order_ascends ms)

put_stable : (z m : Member) (xs : List Member) → filter (ties less z) (put_in m xs) ≡ filter (ties less z) (m ∷ xs)
put_stable z m [] = refl
put_stable z m (x ∷ xs) = which (is_behind m x) (behind_is m x) (put_stable z m xs)
  where
    f : List Member
    f = filter (ties less z) xs

    exchanged : (b c : Bool) → (b ≡ true → c ≡ true → ⊥) → (if b then x ∷ (if c then m ∷ f else f) else (if c then m ∷ f else f)) ≡ (if c then m ∷ (if b then x ∷ f else f) else (if b then x ∷ f else f))
    exchanged true true apart = absurd (apart refl refl)
    exchanged true false apart = refl
    exchanged false true apart = refl
    exchanged false false apart = refl

    apart : less x m ≡ true → ties less z x ≡ true → ties less z m ≡ true → ⊥
    apart h first second = false≢true (sym (less_order.chain x z m (ties_below less less_order z x first) (ties_above less less_order z m second)) ∙ h)

    which : (b : Bool) → b ≡ less x m → filter (ties less z) (put_in m xs) ≡ filter (ties less z) (m ∷ xs) →
        filter (ties less z) (if b then x ∷ put_in m xs else m ∷ x ∷ xs) ≡ filter (ties less z) (m ∷ x ∷ xs)
    which true e ih =
        ap (λ (ys : List Member). if ties less z x then x ∷ ys else ys) ih
        ∙ exchanged (ties less z x) (ties less z m) (apart (sym e))
    which false e ih = refl

order_stable : (z : Member) (ms : List Member) → filter (ties less z) (in_order ms) ≡ filter (ties less z) ms
order_stable z [] = refl
order_stable z (m ∷ ms) = put_stable z m (in_order ms) ∙ ap (λ (ys : List Member). if ties less z m then m ∷ ys else ys) (order_stable z ms)

-- members that are sorted so that ties keep their order are in order
pub sorted_in_order : (ms sorted : List Member) → IsSortedBy less sorted → IsStableBy less ms sorted → sorted ≡ in_order ms
sorted_in_order ms sorted up stable =
    one_list less less_order sorted (in_order ms) (sorted_ascends less less_order sorted up) (order_ascends ms) (λ z. stable z ∙ sym (order_stable z ms))

-- none is behind one after it
abbrev pub AreSorted : List Member → Type 0
AreSorted [] = Unit {0}
AreSorted (m ∷ ms) = AllByRecursion (λ x. is_behind m x ≡ false) ms × AreSorted ms

none_behind : (ms : List Member) → Ascends less less_order ms → AreSorted ms
none_behind [] up = tt
none_behind (m ∷ ms) up = (all ms up.0, none_behind ms up.1)
  where
    all : (xs : List Member) → AllByRecursion (λ y. less y m ≡ false) xs → AllByRecursion (λ x. is_behind m x ≡ false) xs
    all [] h = tt
    all (x ∷ xs) h = (behind_is m x ∙ h.0, all xs h.1)

pub order_sorted : (ms : List Member) → AreSorted (in_order ms)
order_sorted ms = none_behind (in_order ms) (order_ascends ms)
