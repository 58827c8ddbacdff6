-- What the last items tell in which pairs stand.
use Rattle.std.proofs.Common.{◌≡◌, ◌↔◌, ◌⊎◌, ℕ, zero, suc, ◌+◌, ◌<◌, Bool, true, List, [], ◌∷◌, ◌++◌, length, take, drop, Option, Some, None, refl, sym, ap, ◌∙◌, subst, inl, inr, append_assoc, arith}
use Rattle.std.specs.Prelude.{slice_get}
use Rattle.cascade_laws.proofs.ForCallers.{some-same}
use Rattle.css_model.specs.Cascade.Order.{Pair, HasPair, IsBefore}
use Rattle.css_model.specs.declared.sheet.Item.{Item}
use Rattle.css_model.specs.Sheets.KeptItems.{is_kept}
use Rattle.order_laws.proofs.ForCallers.{has_append, BeforeInTwo, before_in_two}
use Rattle.window_order.proofs.KeptOrder.{split_at}
use Rattle.window_order.proofs.LastFound.{AreAbove, before_above, first_there, in_neither, nothing}
use Rattle.window_order.proofs.StandingTests.{kept_has_none}
use Rattle.window_order.specs.Places.{IsBelow, IsLastPlace, IsPlace, IsSomewhere}

-- ---- Lists

pub first_rest : {X : Type 0} → (n : ℕ) (xs : List X) → xs ≡ take n xs ++ drop n xs
first_rest {X} zero xs = refl
first_rest {X} (suc n) [] = refl
first_rest {X} (suc n) (x ∷ xs) = ap (λ (ys : List X). x ∷ ys) (first_rest n xs)

at_length : {X : Type 0} → (above behind : List X) (x : X) → slice_get (above ++ x ∷ behind) (length above) ≡ Some x
at_length {X} [] behind x = refl
at_length {X} (y ∷ above) behind x = at_length above behind x

behind_length : {X : Type 0} → (above behind : List X) (x : X) → drop (length above + 1) (above ++ x ∷ behind) ≡ behind
behind_length {X} [] behind x = refl
behind_length {X} (y ∷ above) behind x = let e : length (y ∷ above) + 1 ≡ suc (length above + 1) = omega arith in ap (λ (k : ℕ). drop k (y ∷ (above ++ x ∷ behind))) e ∙ behind_length above behind x

ordered : (i j : ℕ) → (i < j) ⊎ (i ≡ j) ⊎ (j < i)
ordered zero zero = inr (inl refl)
ordered zero (suc j) = inl (omega arith)
ordered (suc i) zero = inr (inr (omega arith))
ordered (suc i) (suc j) = up (ordered i j)
  where
    up : (i < j) ⊎ (i ≡ j) ⊎ (j < i) → (suc i < suc j) ⊎ (suc i ≡ suc j) ⊎ (suc j < suc i)
    up (inl h) = inl (omega (arith, h))
    up (inr (inl h)) = inr (inl (ap suc h))
    up (inr (inr h)) = inr (inr (omega (arith, h)))

-- ---- Found from the last item upwards

pub place_here : (items rest above : List Item) (last : Item) (p : Pair) → rest ≡ above ++ last ∷ [] → AreAbove items rest p p → HasPair (last ∷ []) p → IsLastPlace items (length above) p
place_here items rest above last p cut a has = record {
  item = last;
  item_at = ap (λ (xs : List Item). slice_get xs (length above)) whole ∙ at_length above a.behind last;
  stands = has;
  none = λ h. a.first (subst (λ (xs : List Item). HasPair xs p) (ap (λ (xs : List Item). drop (length above + 1) xs) whole ∙ behind_length above a.behind last) h);
}
  where
    whole : items ≡ above ++ last ∷ a.behind
    whole = a.parts ∙ ap (λ (xs : List Item). xs ++ a.behind) cut ∙ append_assoc above (last ∷ []) a.behind

pub place_nowhere : (items rest : List Item) (p : Pair) → rest ≡ [] → AreAbove items rest p p → HasPair items p → ⊥
place_nowhere items rest p e a h = in_neither rest a.behind p (λ g. nothing p (subst (λ (xs : List Item). HasPair xs p) e g)) a.first (subst (λ (xs : List Item). HasPair xs p) a.parts h)

-- ---- Of one pair

module _ (items : List Item) (i : ℕ) (p : Pair) (at : IsLastPlace items i p) where
  abbrev pub above : List Item
  above = take i items ++ at.item ∷ []

  pub parted : items ≡ above ++ drop (i + 1) items
  parted = split_at items i at.item at.item_at ∙ sym (append_assoc (take i items) (at.item ∷ []) (drop (i + 1) items))

  pub stands_there : HasPair items p
  stands_there = subst (λ (xs : List Item). HasPair xs p) (sym parted) ((has_append above (drop (i + 1) items) p).1 (inl stands_above))
    where
      stands_above : HasPair above p
      stands_above = (has_append (take i items) (at.item ∷ []) p).1 (inr at.stands)

-- a pair that stands in an item stands in what lies behind those above it
stands_behind : (items : List Item) (i j : ℕ) (item : Item) (q : Pair) → i < j → slice_get items j ≡ Some item → HasPair (item ∷ []) q → HasPair (drop (i + 1) items) q
stands_behind [] i j item q less at has = absurd (let e : None ≡ Some item = at in cc)
stands_behind (x ∷ items) i zero item q less at has = absurd (omega (arith, less))
stands_behind (x ∷ items) zero (suc j) item q less at has = subst (λ (xs : List Item). HasPair xs q) (sym (split_at items j item at)) ((has_append (take j items) (item ∷ drop (j + 1) items) q).1 (inr ((has_append (item ∷ []) (drop (j + 1) items) q).1 (inl has))))
stands_behind (x ∷ items) (suc i) (suc j) item q less at has =
    let e : suc i + 1 ≡ suc (i + 1) = omega arith in
    subst (λ (k : ℕ). HasPair (drop k (x ∷ items)) q) (sym e) (stands_behind items i j item q (omega (arith, less)) at has)

-- it stands in the item of the number
pub stands_at : (items : List Item) (i j : ℕ) (item : Item) (p : Pair) → i ≡ j → slice_get items i ≡ Some item → IsLastPlace items j p → HasPair (item ∷ []) p
stands_at items i j item p same at is = subst (λ (x : Item). HasPair (x ∷ []) p) (some-same (sym is.item_at ∙ ap (λ (n : ℕ). slice_get items n) (sym same) ∙ at)) is.stands

-- ---- Of two

module _ (items : List Item) (i j : ℕ) (p q : Pair) (first : IsLastPlace items i p) (second : IsLastPlace items j q) where
  pub earlier : i < j → IsBefore items p q
  earlier less = subst (λ (xs : List Item). IsBefore xs p q) (sym (parted items i p first))
      ((before_in_two (above items i p first) (drop (i + 1) items) p q).1 (inr (inl (there, first.none, stands_behind items i j second.item q less second.item_at second.stands))))
    where
      there : HasPair (above items i p first) p
      there = (has_append (take i items) (first.item ∷ []) p).1 (inr first.stands)

  pub later : j < i → IsBefore items p q → ⊥
  later less b = which ((before_in_two (above items j q second) (drop (j + 1) items) p q).0 (subst (λ (xs : List Item). IsBefore xs p q) (parted items j q second) b))
    where
      which : BeforeInTwo (above items j q second) (drop (j + 1) items) p q → ⊥
      which (inl c) = second.none (c.later, c.second.stands)
      which (inr (inl c)) = c.1 (stands_behind items j i first.item p less first.item_at first.stands)
      which (inr (inr c)) = c.0 (stands_behind items j i first.item p less first.item_at first.stands)

-- of pairs that stand last in one item
pub before_in_one : (items : List Item) (i j : ℕ) (item : Item) (p q : Pair) (b : Bool) → i ≡ j → slice_get items i ≡ Some item → IsLastPlace items i p → IsLastPlace items j q → (b ≡ true) ↔ IsBefore (item ∷ []) p q → (b ≡ true) ↔ IsBefore items p q
before_in_one items i j item p q b same at first second told = (λ e. back (told.0 e), λ h. told.1 (there h))
  where
    is : first.item ≡ item
    is = some-same (sym first.item_at ∙ at)

    no_second : HasPair (drop (i + 1) items) q → ⊥
    no_second h = second.none (subst (λ (k : ℕ). HasPair (drop (k + 1) items) q) same h)

    there : IsBefore items p q → IsBefore (item ∷ []) p q
    there h =
        subst (λ (x : Item). IsBefore (x ∷ []) p q) is
        ((first_there (take i items) first.item p q first.stands).0
        ((before_above (above items i p first) (drop (i + 1) items) p q first.none no_second).0 (subst (λ (xs : List Item). IsBefore xs p q) (parted items i p first) h)))

    back : IsBefore (item ∷ []) p q → IsBefore items p q
    back h =
        subst (λ (xs : List Item). IsBefore xs p q) (sym (parted items i p first))
        ((before_above (above items i p first) (drop (i + 1) items) p q first.none no_second).1
        ((first_there (take i items) first.item p q first.stands).1 (subst (λ (x : Item). IsBefore (x ∷ []) p q) (sym is) h)))

-- ---- Beside a kept item

in_rest : (items : List Item) (n : ℕ) (p : Pair) → HasPair (drop n items) p → HasPair items p
in_rest items n p h = subst (λ (xs : List Item). HasPair xs p) (sym (first_rest n items)) ((has_append (take n items) (drop n items) p).1 (inr h))

in_more : (items : List Item) (k n : ℕ) (p : Pair) → (n < k → ⊥) → HasPair (drop (n + 1) items) p → HasPair (drop (k + 1) items) p
in_more [] k n p not h = absurd (nothing p (in_rest [] (n + 1) p h))
in_more (x ∷ items) zero zero p not h = h
in_more (x ∷ items) zero (suc n) p not h = let e : suc n + 1 ≡ suc (n + 1) = omega arith in in_rest items (n + 1) p (subst (λ (m : ℕ). HasPair (drop m (x ∷ items)) p) e h)
in_more (x ∷ items) (suc k) zero p not h = absurd (not (omega arith))
in_more (x ∷ items) (suc k) (suc n) p not h =
    let e : suc n + 1 ≡ suc (n + 1) = omega arith in
    let f : suc k + 1 ≡ suc (k + 1) = omega arith in
    subst (λ (m : ℕ). HasPair (drop m (x ∷ items)) p) (sym f) (in_more items k n p (λ less. not (omega (arith, less))) (subst (λ (m : ℕ). HasPair (drop m (x ∷ items)) p) e h))

in_first : (items : List Item) (k n : ℕ) (item : Item) (p : Pair) → k < n → slice_get items k ≡ Some item → HasPair (item ∷ []) p → HasPair (take n items) p
in_first [] k n item p less at has = absurd (let e : None ≡ Some item = at in cc)
in_first (x ∷ items) k zero item p less at has = absurd (omega (arith, less))
in_first (x ∷ items) zero (suc n) item p less at has = (has_append (x ∷ []) (take n items) p).1 (inl (subst (λ (y : Item). HasPair (y ∷ []) p) (sym (some-same at)) has))
in_first (x ∷ items) (suc k) (suc n) item p less at has = (has_append (x ∷ []) (take n items) p).1 (inr (in_first items k n item p (omega (arith, less)) at has))

module _ (items : List Item) (n : ℕ) (item : Item) (item_at : slice_get items n ≡ Some item) (kept : is_kept item ≡ true) (p : Pair) where
  pub stands_below : (at : Option ℕ) → IsPlace items p at → IsBelow at n → HasPair (drop (n + 1) items) p
  stands_below None is below = absurd below
  stands_below (Some k) is below = stands_behind items n k is.item p below is.item_at is.stands

  pub none_below : (at : Option ℕ) → IsPlace items p at → (IsBelow at n → ⊥) → HasPair (drop (n + 1) items) p → ⊥
  none_below None is not h = is (in_rest items (n + 1) p h)
  none_below (Some k) is not h = is.none (in_more items k n p not h)

  pub somewhere_above : (at : Option ℕ) (b : Bool) → IsPlace items p at → (IsBelow at n → ⊥) → (b ≡ true) ↔ IsSomewhere at → (b ≡ true) ↔ HasPair (take n items) p
  somewhere_above None b is not told = (λ e. absurd (told.0 e), λ h. absurd (is (subst (λ (xs : List Item). HasPair xs p) (sym (first_rest n items)) ((has_append (take n items) (drop n items) p).1 (inl h)))))
  somewhere_above (Some k) b is not told = (λ e. in_first items k n is.item p (less (ordered k n)) is.item_at is.stands, λ h. told.1 tt)
    where
      here : k ≡ n → ⊥
      here e = kept_has_none item p kept (subst (λ (x : Item). HasPair (x ∷ []) p) (some-same (sym is.item_at ∙ ap (λ (m : ℕ). slice_get items m) e ∙ item_at)) is.stands)

      less : (k < n) ⊎ (k ≡ n) ⊎ (n < k) → k < n
      less (inl h) = h
      less (inr (inl h)) = absurd (here h)
      less (inr (inr h)) = absurd (not h)

-- ---- One pair alone

pub second_alone_there : (items : List Item) (p q : Pair) (at other : Option ℕ) (j : ℕ) → at ≡ None → other ≡ Some j → IsPlace items p at → IsPlace items q other → (HasPair items p → ⊥) × HasPair items q
second_alone_there items p q at other j is is' first second = (
  subst (λ (place : Option ℕ). IsPlace items p place) is first,
  stands_there items j q (subst (λ (place : Option ℕ). IsPlace items q place) is' second),
)

pub first_alone : (items : List Item) (p q : Pair) (at other : Option ℕ) (i : ℕ) → at ≡ Some i → other ≡ None → IsPlace items p at → IsPlace items q other → HasPair items p × (IsBefore items p q → ⊥)
first_alone items p q at other i is is' first second = (
  stands_there items i p (subst (λ (place : Option ℕ). IsPlace items p place) is first),
  λ b. (subst (λ (place : Option ℕ). IsPlace items q place) is' second) (b.later, b.second.stands),
)
