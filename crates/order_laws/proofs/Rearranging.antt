-- A rearrangement that reverses nothing that counts keeps the sheet.
use Rattle.std.proofs.Common.{◌≡◌, ◌≢◌, ◌↔◌, ◌⊎◌, ℕ, ◌<◌, ◌≤◌, Bool, true, false, List, Some, refl, sym, ap, ◌∙◌, subst, inl, inr, arith}
use Rattle.std.specs.Prelude.{slice_get}
use Rattle.css_model.specs.declared.sheet.Item.{Item}
use Rattle.css_model.specs.Cascade.Winner.{Place, IsLater}
use Rattle.css_model.specs.Sheets.KeptItems.{kept_before, kept_items}
use Rattle.css_model.specs.Cascade.Order.{Meet, Pair, IsPairAt, HasPair, IsLast, Weigh, WeighsKept, IsBefore, IsBeforeKept, Keeps}
use Rattle.order_laws.specs.Slots.{old_items}
use Rattle.order_laws.specs.Edits.{Edit, is_moved, slots_of, edited, StandsIn, IsRearrangement}
use Rattle.order_laws.specs.Reversing.{ReversesPair, ReversesKept}
use Rattle.order_laws.proofs.Appended.{last_same}
use Rattle.order_laws.proofs.EditedItems.{old_same}
use Rattle.order_laws.proofs.LastPlaces.{last_or_none, last_of}
use Rattle.order_laws.proofs.PlaceOrder.{which_less, which_later, later_one_way}
use Rattle.order_laws.proofs.SlotLemmas.{pairs_still, order_still, kept_order_still, same_kept, fair_slots_keep}
use Rattle.order_laws.proofs.Winners.{other_places}

-- ---- What can be decided

abbrev EitherWay : Type 0 → Type 0
EitherWay P = P ⊎ (P → ⊥)

pub one_way : (items : List Item) (p q : Pair) → IsBefore items p q → IsBefore items q p → ⊥
one_way items p q b c =
    let e : b.place ≡ c.later = last_same items p b.place c.later b.first c.second in
    let g : b.later ≡ c.place = last_same items q b.later c.place b.second c.first in
    later_one_way b.later b.place b.before (subst (λ (x : Place). IsLater b.place x) (sym g) (subst (λ (x : Place). IsLater x c.place) (sym e) c.before))

one_of_both : (items : List Item) (p q : Pair) → p.decl ≢ q.decl → HasPair items p → HasPair items q → IsBefore items p q ⊎ IsBefore items q p
one_of_both items p q apart hp hq =
    let l : (x : Place) × IsLast items p x = last_of items p hp in
    let m : (x : Place) × IsLast items q x = last_of items q hq in
    which l.0 m.0 l.1 m.1 (which_later l.0 m.0)
  where
    which : (x y : Place) → IsLast items p x → IsLast items q y → IsLater x y ⊎ (x ≡ y) ⊎ IsLater y x → IsBefore items p q ⊎ IsBefore items q p
    which x y l m (inl h) = inr (record { place = y; later = x; first = m; second = l; before = h })
    which x y l m (inr (inl e)) = absurd (apart (other_places items p q x y e l.stands m.stands))
    which x y l m (inr (inr h)) = inl (record { place = x; later = y; first = l; second = m; before = h })

kept_or_not : (items : List Item) (p : Pair) (n : ℕ) → EitherWay (IsBeforeKept items p n)
kept_or_not items p n = which (last_or_none items p)
  where
    at_place : (x : Place) → IsLast items p x → (n < kept_before x.item items) ⊎ (n ≡ kept_before x.item items) ⊎ (kept_before x.item items < n) → EitherWay (IsBeforeKept items p n)
    at_place x l (inl less) = inr (λ b. let e : b.place ≡ x = last_same items p b.place x b.stands l in
        let g : kept_before b.place.item items ≡ kept_before x.item items = ap (λ (y : Place). kept_before y.item items) e in let h : kept_before b.place.item items ≤ n = b.before in absurd (omega (arith, less, g, h)))
    at_place x l (inr (inl e)) = inl (record { place = x; stands = l; before = omega (arith, e) })
    at_place x l (inr (inr h)) = inl (record { place = x; stands = l; before = omega (arith, h) })

    which : ((x : Place) × IsLast items p x) ⊎ ((x : Place) → IsPairAt items p x → ⊥) → EitherWay (IsBeforeKept items p n)
    which (inl l) = at_place l.0 l.1 (which_less n (kept_before l.0.item items))
    which (inr none) = inr (λ b. none b.place b.stands.stands)

-- ---- The laws

pub unmoved_keep_their_order : (items : List Item) (e : Edit) → IsRearrangement items e →
    ((p q : Pair) → is_moved e.moved p ≡ false → is_moved e.moved q ≡ false → IsBefore items p q ↔ IsBefore (edited e items) p q)
    × ((p : Pair) (number : ℕ) → is_moved e.moved p ≡ false → IsBeforeKept items p number ↔ IsBeforeKept (edited e items) p number)
    × (kept_items items ≡ kept_items (edited e items))
unmoved_keep_their_order items e is = (
  λ p q still still'. subst (λ (xs : List Item). IsBefore xs p q ↔ IsBefore (edited e items) p q) (old_same 0 e.changes items) (order_still (is_moved e.moved) (slots_of e items) is.fair p q still still'),
  λ p number still. subst (λ (xs : List Item). IsBeforeKept xs p number ↔ IsBeforeKept (edited e items) p number) (old_same 0 e.changes items) (kept_order_still (is_moved e.moved) (slots_of e items) is.fair p number still),
  ap kept_items (sym (old_same 0 e.changes items)) ∙ same_kept (is_moved e.moved) (slots_of e items) is.fair,
)

pub rearranging_keeps : (source : List ℕ) (items : List Item) (e : Edit) → IsRearrangement items e →
    ((p q : Pair) → ReversesPair items (edited e items) e.moved p q → Meet p.selector q.selector → ⊥) →
    ((p : Pair) (number : ℕ) → ReversesKept items (edited e items) e.moved p number → ⊥) →
    Keeps source items source (edited e items)
rearranging_keeps source items e is no_pair no_kept =
    subst (λ (xs : List Item). Keeps source xs source (edited e items)) (old_same 0 e.changes items)
    (fair_slots_keep (is_moved e.moved) source (slots_of e items) is.fair pairs order kept)
  where
    stands : (p : Pair) → is_moved e.moved p ≡ true → HasPair items p
    stands p h = let w : StandsIn e.moved.out_of items p = is.from p h in (w.0, w.1)

    pairs : (p : Pair) → HasPair (old_items (slots_of e items)) p ↔ HasPair (edited e items) p
    pairs p = which (is_moved e.moved p) refl
      where
        which : (b : Bool) → is_moved e.moved p ≡ b → HasPair (old_items (slots_of e items)) p ↔ HasPair (edited e items) p
        which true h = (λ g. is.to p h, λ g. subst (λ (xs : List Item). HasPair xs p) (sym (old_same 0 e.changes items)) (stands p h))
        which false h = pairs_still (is_moved e.moved) (slots_of e items) is.fair p h

    pair_there : (p : Pair) → HasPair items p → HasPair (edited e items) p
    pair_there p h = (pairs p).0 (subst (λ (xs : List Item). HasPair xs p) (sym (old_same 0 e.changes items)) h)

    pair_back : (p : Pair) → HasPair (edited e items) p → HasPair items p
    pair_back p h = subst (λ (xs : List Item). HasPair xs p) (old_same 0 e.changes items) ((pairs p).1 h)

    -- a reversed pair would not meet
    never : (p q : Pair) → is_moved e.moved p ≡ true → Weigh p q → Meet p.selector q.selector → HasPair items q →
        (IsBefore items p q × (IsBefore (edited e items) p q → ⊥)) ⊎ ((IsBefore items p q → ⊥) × IsBefore (edited e items) p q) → ⊥
    never p q h w m there turns = no_pair p q (record { moved = h; there = there; weigh = w; order = turns }) m

    first_there : (p q : Pair) → is_moved e.moved p ≡ true → Weigh p q → Meet p.selector q.selector → IsBefore items p q → IsBefore (edited e items) p q
    first_there p q h w m b = which (one_of_both (edited e items) p q w.different (is.to p h) (pair_there q (b.later, b.second.stands)))
      where
        which : IsBefore (edited e items) p q ⊎ IsBefore (edited e items) q p → IsBefore (edited e items) p q
        which (inl c) = c
        which (inr c) = absurd (never p q h w m (b.later, b.second.stands) (inl (b, λ d. one_way (edited e items) p q d c)))

    first_back : (p q : Pair) → is_moved e.moved p ≡ true → Weigh p q → Meet p.selector q.selector → IsBefore (edited e items) p q → IsBefore items p q
    first_back p q h w m b = which (one_of_both items p q w.different (stands p h) (pair_back q (b.later, b.second.stands)))
      where
        which : IsBefore items p q ⊎ IsBefore items q p → IsBefore items p q
        which (inl c) = c
        which (inr c) = absurd (never p q h w m (pair_back q (b.later, b.second.stands)) (inr (λ d. one_way items p q d c, b)))

    second_there : (p q : Pair) → is_moved e.moved p ≡ true → Weigh p q → Meet p.selector q.selector → IsBefore items q p → IsBefore (edited e items) q p
    second_there p q h w m b = which (one_of_both (edited e items) p q w.different (is.to p h) (pair_there q (b.place, b.first.stands)))
      where
        which : IsBefore (edited e items) p q ⊎ IsBefore (edited e items) q p → IsBefore (edited e items) q p
        which (inr c) = c
        which (inl c) = absurd (never p q h w m (b.place, b.first.stands) (inr (λ d. one_way items p q d b, c)))

    second_back : (p q : Pair) → is_moved e.moved p ≡ true → Weigh p q → Meet p.selector q.selector → IsBefore (edited e items) q p → IsBefore items q p
    second_back p q h w m b = which (one_of_both items p q w.different (stands p h) (pair_back q (b.place, b.first.stands)))
      where
        which : IsBefore items p q ⊎ IsBefore items q p → IsBefore items q p
        which (inr c) = c
        which (inl c) = absurd (never p q h w m (pair_back q (b.place, b.first.stands)) (inl (c, λ d. one_way (edited e items) p q d b)))

    order_of : (p q : Pair) → is_moved e.moved p ≡ true → Weigh p q → Meet p.selector q.selector →
        (IsBefore items p q ↔ IsBefore (edited e items) p q) × (IsBefore items q p ↔ IsBefore (edited e items) q p)
    order_of p q h w m = ((first_there p q h w m, first_back p q h w m), (second_there p q h w m, second_back p q h w m))

    order : (p q : Pair) → is_moved e.moved p ≡ true → Weigh p q → Meet p.selector q.selector →
        (IsBefore (old_items (slots_of e items)) p q ↔ IsBefore (edited e items) p q) × (IsBefore (old_items (slots_of e items)) q p ↔ IsBefore (edited e items) q p)
    order p q h w m = subst (λ (xs : List Item). (IsBefore xs p q ↔ IsBefore (edited e items) p q) × (IsBefore xs q p ↔ IsBefore (edited e items) q p)) (sym (old_same 0 e.changes items)) (order_of p q h w m)

    kept_of : (p : Pair) (n : ℕ) (x : Item) → is_moved e.moved p ≡ true → slice_get (kept_items items) n ≡ Some x → WeighsKept p x → IsBeforeKept items p n ↔ IsBeforeKept (edited e items) p n
    kept_of p n x h at w = (λ b. there b (kept_or_not (edited e items) p n), λ b. back b (kept_or_not items p n))
      where
        there : IsBeforeKept items p n → EitherWay (IsBeforeKept (edited e items) p n) → IsBeforeKept (edited e items) p n
        there b (inl c) = c
        there b (inr c) = absurd (no_kept p n (record { item = x; moved = h; item_at = at; weighs = w; order = inl (b, c) }))

        back : IsBeforeKept (edited e items) p n → EitherWay (IsBeforeKept items p n) → IsBeforeKept items p n
        back b (inl c) = c
        back b (inr c) = absurd (no_kept p n (record { item = x; moved = h; item_at = at; weighs = w; order = inr (c, b) }))

    kept : (p : Pair) (n : ℕ) (x : Item) → is_moved e.moved p ≡ true → slice_get (kept_items (old_items (slots_of e items))) n ≡ Some x → WeighsKept p x → IsBeforeKept (old_items (slots_of e items)) p n ↔ IsBeforeKept (edited e items) p n
    kept p n x h = subst (λ (xs : List Item). slice_get (kept_items xs) n ≡ Some x → WeighsKept p x → IsBeforeKept xs p n ↔ IsBeforeKept (edited e items) p n) (sym (old_same 0 e.changes items)) (kept_of p n x h)
