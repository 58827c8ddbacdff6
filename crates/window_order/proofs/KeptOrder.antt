-- Which pairs come last before a kept item.
use Rattle.std.proofs.Common.{◌≡◌, ◌↔◌, ◌⊎◌, ℕ, zero, suc, ◌+◌, ◌<◌, ◌≤◌, Bool, true, false, not, ◌&&◌, ◌||◌, List, [], ◌∷◌, ◌++◌, length, take, drop, Some, None, refl, sym, ap, ◌∙◌, subst, inl, inr, append_assoc, arith}
use Rattle.std.specs.Prelude.{slice_get}
use Rattle.std.proofs.lemmas.Bool.{false≢true, and_from, and_parts, false_from_ne_true, not-true, not_from_false, or_cases, or_left, or_right}
use Rattle.std.proofs.lemmas.List.Elements.{filter-append}
use Rattle.cascade_laws.proofs.ForCallers.{some-same}
use Rattle.css_model.specs.Cascade.Order.{Pair, HasPair, IsLast, IsBeforeKept}
use Rattle.css_model.specs.Cascade.Winner.{Place}
use Rattle.css_model.specs.declared.sheet.Item.{Item}
use Rattle.css_model.specs.declared.sheet.Item.TheVariants.{Rule, KeptRule, KeptBlock}
use Rattle.css_model.specs.Sheets.KeptItems.{is_kept, kept_before, kept_items}
use Rattle.order_laws.proofs.ForCallers.{has_append, last_of, LastBehind, BehindInTwo, behind_in_two}
use Rattle.order_laws.specs.Reversing.{Differ}
use Rattle.window_order.proofs.LastFound.{no, told_as}
use Rattle.window_order.proofs.PairOrders.{none_differ}
use Rattle.window_order.proofs.StandingTests.{kept_has_none, stands_is}
use Rattle.window_order.specs.Orders.{AreAlwaysSameKept, AreKeptEnds, HasOtherPlace, comes_before_kept}
use Rattle.window_order.specs.Standing.{stands}
use Rattle.window_order.specs.declared.kept.KeptEnds.{KeptEnds}

-- ---- Lists

pub split_at : {X : Type 0} → (xs : List X) (n : ℕ) (x : X) → slice_get xs n ≡ Some x → xs ≡ take n xs ++ x ∷ drop (n + 1) xs
split_at {X} [] n x at = absurd (let e : None ≡ Some x = at in cc)
split_at {X} (y ∷ xs) zero x at = ap (λ (z : X). z ∷ xs) (some-same at)
split_at {X} (y ∷ xs) (suc n) x at = let e : suc n + 1 ≡ suc (n + 1) = omega arith in ap (λ ys. y ∷ ys) (split_at xs n x at) ∙ ap (λ (k : ℕ). y ∷ take n xs ++ x ∷ drop k (y ∷ xs)) (sym e)

pub within : {X : Type 0} → (xs : List X) (n : ℕ) (x : X) → slice_get xs n ≡ Some x → n < length xs
within {X} [] n x at = absurd (let e : None ≡ Some x = at in cc)
within {X} (y ∷ xs) zero x at = omega arith
within {X} (y ∷ xs) (suc n) x at = let h : n < length xs = within xs n x at in omega (arith, h)

pub kept_in_first : (n : ℕ) (items : List Item) → length (kept_items (take n items)) ≡ kept_before n items
kept_in_first zero items = refl
kept_in_first (suc n) [] = refl
kept_in_first (suc n) (Rule r ∷ items) = kept_in_first n items
kept_in_first (suc n) (KeptRule k ∷ items) = ap suc (kept_in_first n items)
kept_in_first (suc n) (KeptBlock k ∷ items) = ap suc (kept_in_first n items)

pub few_before : (i : ℕ) (items : List Item) → kept_before i items ≤ length (kept_items items)
few_before zero items = omega arith
few_before (suc i) [] = omega arith
few_before (suc i) (Rule r ∷ items) = few_before i items
few_before (suc i) (KeptRule k ∷ items) = let h : kept_before i items ≤ length (kept_items items) = few_before i items in omega (arith, h)
few_before (suc i) (KeptBlock k ∷ items) = let h : kept_before i items ≤ length (kept_items items) = few_before i items in omega (arith, h)

one_kept : (item : Item) → is_kept item ≡ true → length (kept_items (item ∷ [])) ≡ 1
one_kept (Rule r) e = absurd (false≢true e)
one_kept (KeptRule k) e = refl
one_kept (KeptBlock k) e = refl

-- ---- A kept item, what lies above it, and what lies behind

-- the last of a pair is no further than above the kept item
above_one : (xs ys : List Item) (item : Item) (p : Pair) → is_kept item ≡ true → (k : ℕ) → LastBehind (xs ++ item ∷ ys) p k → k ≤ length (kept_items xs) → HasPair xs p × (HasPair ys p → ⊥)
above_one xs ys item p kept k l few = which ((behind_in_two xs (item ∷ ys) p k).0 l)
  where
    behind : (j : ℕ) → k ≡ length (kept_items xs) + j → BehindInTwo (item ∷ []) ys p j → ⊥
    behind j e (inl h) = let a = h.2 in let b = one_kept item kept in absurd (omega (arith, a, b, e, few))
    behind j e (inr h) = kept_has_none item p kept (h.1.place, h.1.stands.stands)

    which : BehindInTwo xs (item ∷ ys) p k → HasPair xs p × (HasPair ys p → ⊥)
    which (inl h) = absurd (behind h.0 h.2 ((behind_in_two (item ∷ []) ys p h.0).0 h.1))
    which (inr h) = ((h.1.place, h.1.stands.stands), λ g. h.0 ((has_append (item ∷ []) ys p).1 (inr g)))

pub kept_order : (xs ys : List Item) (item : Item) (p : Pair) → is_kept item ≡ true → IsBeforeKept (xs ++ item ∷ ys) p (length (kept_items xs)) ↔ (HasPair xs p × (HasPair ys p → ⊥))
kept_order xs ys item p kept = (λ b. above_one xs ys item p kept (kept_before b.place.item (xs ++ item ∷ ys)) (record { place = b.place; stands = b.stands; number = refl }) b.before, back)
  where
    none : (HasPair ys p → ⊥) → HasPair (item ∷ ys) p → ⊥
    none f h = which ((has_append (item ∷ []) ys p).0 h)
      where
        which : HasPair (item ∷ []) p ⊎ HasPair ys p → ⊥
        which (inl g) = kept_has_none item p kept g
        which (inr g) = f g

    made : (k : ℕ) → k ≤ length (kept_items xs) → LastBehind (xs ++ item ∷ ys) p k → IsBeforeKept (xs ++ item ∷ ys) p (length (kept_items xs))
    made k few l = let e = l.number in record { place = l.place; stands = l.stands; before = omega (arith, e, few) }

    back : HasPair xs p × (HasPair ys p → ⊥) → IsBeforeKept (xs ++ item ∷ ys) p (length (kept_items xs))
    back (h, f) =
        let l : (q : Place) × IsLast xs p q = last_of xs p h in
        let k : ℕ = kept_before l.0.item xs in
        made k (few_before l.0.item xs) ((behind_in_two xs (item ∷ ys) p k).1 (inr (none f, record { place = l.0; stands = l.1; number = refl })))

-- ---- In three parts

length_both : {X : Type 0} → (xs ys : List X) → length (xs ++ ys) ≡ length xs + length ys
length_both {X} [] ys = omega arith
length_both {X} (x ∷ xs) ys = let h : length (xs ++ ys) ≡ length xs + length ys = length_both xs ys in omega (arith, h)

-- a pair stands above, and not below
abbrev pub StandsAbove : List Item → List Item → List Item → List Item → Pair → Type 0
StandsAbove first above below last p = (HasPair first p ⊎ HasPair above p) × ((HasPair last p ⊎ HasPair below p) → ⊥)

module _ (first middle last : List Item) (number : ℕ) (item : Item) (at : slice_get middle number ≡ Some item) where
  abbrev above : List Item
  above = first ++ take number middle

  abbrev below : List Item
  below = drop (number + 1) middle ++ last

  parted : first ++ (middle ++ last) ≡ above ++ item ∷ below
  parted =
      ap (λ xs. first ++ (xs ++ last)) (split_at middle number item at)
      ∙ ap (λ xs. first ++ xs) (append_assoc (take number middle) (item ∷ drop (number + 1) middle) last)
      ∙ sym (append_assoc first (take number middle) (item ∷ below))

  counted : length (kept_items above) ≡ length (kept_items first) + kept_before number middle
  counted =
      ap (λ (xs : List Item). length xs) (filter-append is_kept first (take number middle))
      ∙ length_both (kept_items first) (kept_items (take number middle))
      ∙ ap (λ (k : ℕ). length (kept_items first) + k) (kept_in_first number middle)

  there : (p : Pair) → HasPair above p × (HasPair below p → ⊥) → StandsAbove first (take number middle) (drop (number + 1) middle) last p
  there p h = ((has_append first (take number middle) p).0 h.0, not)
    where
      not : HasPair last p ⊎ HasPair (drop (number + 1) middle) p → ⊥
      not (inl g) = h.1 ((has_append (drop (number + 1) middle) last p).1 (inr g))
      not (inr g) = h.1 ((has_append (drop (number + 1) middle) last p).1 (inl g))

  back : (p : Pair) → StandsAbove first (take number middle) (drop (number + 1) middle) last p → HasPair above p × (HasPair below p → ⊥)
  back p h = ((has_append first (take number middle) p).1 h.0, λ g. not ((has_append (drop (number + 1) middle) last p).0 g))
    where
      not : HasPair (drop (number + 1) middle) p ⊎ HasPair last p → ⊥
      not (inl g) = h.1 (inr g)
      not (inr g) = h.1 (inl g)

  pub kept_order_in : (p : Pair) → is_kept item ≡ true →
      IsBeforeKept (first ++ (middle ++ last)) p (length (kept_items first) + kept_before number middle) ↔ StandsAbove first (take number middle) (drop (number + 1) middle) last p
  kept_order_in p kept =
      subst (λ (xs : List Item). IsBeforeKept xs p (length (kept_items first) + kept_before number middle) ↔ StandsAbove first (take number middle) (drop (number + 1) middle) last p) (sym parted)
      (subst (λ (k : ℕ). IsBeforeKept (above ++ item ∷ below) p k ↔ StandsAbove first (take number middle) (drop (number + 1) middle) last p) counted
      (λ b. there p ((kept_order above below item p kept).0 b), λ h. (kept_order above below item p kept).1 (back p h)))

-- ---- By the parts at the ends

sides : {F A L B : Type 0} (f a l : Bool) → (f ≡ true) ↔ F → (a ≡ true) ↔ A → (l ≡ true) ↔ L → (B → ⊥) → (((f || a) && not l) ≡ true) ↔ ((F ⊎ A) × ((L ⊎ B) → ⊥))
sides {F} {A} {L} {B} f a l in_first in_above in_last none = (λ e. there (and_parts (f || a) (not l) e), λ h. and_from (f || a) (not l) (back h.0) (not_from_false l (false_from_ne_true l (λ e. h.1 (inl (in_last.0 e))))))
  where
    which : (f ≡ true) ⊎ (a ≡ true) → F ⊎ A
    which (inl e) = inl (in_first.0 e)
    which (inr e) = inr (in_above.0 e)

    not_last : l ≡ false → L ⊎ B → ⊥
    not_last e (inl h) = false≢true (sym e ∙ in_last.1 h)
    not_last e (inr h) = none h

    there : ((f || a) ≡ true) × (not l ≡ true) → (F ⊎ A) × ((L ⊎ B) → ⊥)
    there w = (which (or_cases f a w.0), not_last (not-true l w.1))

    back : F ⊎ A → (f || a) ≡ true
    back (inl h) = or_left f a (in_first.1 h)
    back (inr h) = or_right f a (in_above.1 h)

module _ (middle : List Item) (number : ℕ) (item : Item) (at : slice_get middle number ≡ Some item) (kept : is_kept item ≡ true) (p : Pair) where
  -- the first part has no kept items
  order_in : (first last : List Item) → kept_items first ≡ [] → IsBeforeKept (first ++ (middle ++ last)) p (kept_before number middle) ↔ StandsAbove first (take number middle) (drop (number + 1) middle) last p
  order_in first last plain = subst (λ (n : ℕ). IsBeforeKept (first ++ (middle ++ last)) p n ↔ StandsAbove first (take number middle) (drop (number + 1) middle) last p)
      (ap (λ (xs : List Item). length xs + kept_before number middle) plain ∙ zero_first (kept_before number middle)) (kept_order_in first middle last number item at p kept)
    where
      zero_first : (n : ℕ) → 0 + n ≡ n
      zero_first n = omega arith

  pub before_kept_with : (first last : List Item) (ends : KeptEnds) (above : Bool) → AreKeptEnds first last p ends → kept_items first ≡ [] → (HasPair (drop (number + 1) middle) p → ⊥) → (above ≡ true) ↔ HasPair (take number middle) p →
      (comes_before_kept ends above ≡ true) ↔ IsBeforeKept (first ++ (middle ++ last)) p (kept_before number middle)
  before_kept_with first last ends above are plain none told = told_as (comes_before_kept ends above) (sides ends.above above ends.below are.0 told are.1 none) (order_in first last plain)

  -- where the pair stands below, it does not come last before the item
  pub none_before : (first last first' last' : List Item) → kept_items first ≡ [] → kept_items first' ≡ [] → HasPair (drop (number + 1) middle) p →
      Differ (IsBeforeKept (first ++ (middle ++ last)) p (kept_before number middle)) (IsBeforeKept (first' ++ (middle ++ last')) p (kept_before number middle)) → ⊥
  none_before first last first' last' plain plain' has (inl d) = ((order_in first last plain).0 d.0).1 (inr has)
  none_before first last first' last' plain plain' has (inr d) = ((order_in first' last' plain').0 d.1).1 (inr has)

  -- it need not be known where it stands between, where the parts at the ends tell
  pub never_other_place : (old new : KeptEnds) → AreAlwaysSameKept old new → HasOtherPlace old new middle number p false
  never_other_place old new same first last first' last' are are' plain plain' = no (λ d. which (stands (drop (number + 1) middle) p) refl d)
    where
      which : (b : Bool) → stands (drop (number + 1) middle) p ≡ b → Differ (IsBeforeKept (first ++ (middle ++ last)) p (kept_before number middle)) (IsBeforeKept (first' ++ (middle ++ last')) p (kept_before number middle)) → ⊥
      which true e d = none_before first last first' last' plain plain' ((stands_is (drop (number + 1) middle) p).0 e) d
      which false e d =
          let none : HasPair (drop (number + 1) middle) p → ⊥ = λ h. false≢true (sym e ∙ (stands_is (drop (number + 1) middle) p).1 h) in
          let above : Bool = stands (take number middle) p in
          none_differ (comes_before_kept old above) (comes_before_kept new above) (same above)
          (before_kept_with first last old above are plain none (stands_is (take number middle) p))
          (before_kept_with first' last' new above are' plain' none (stands_is (take number middle) p)) d
