-- The order by keys is that of the sheet.
use Rattle.std.proofs.Common.{◌≡◌, ◌↔◌, ◌⊎◌, ℕ, zero, suc, ◌<◌, List, [], ◌∷◌, length, Some, None, refl, sym, ap, ◌∙◌, subst, inl, inr, arith}
use Rattle.std.specs.Prelude.{slice_get, slice_index_or}
use Rattle.std.proofs.lemmas.Option.{slice_get_within, get_or_from_slice_get}
use Rattle.cascade_laws.proofs.ForCallers.{some-same}
use Rattle.css_model.specs.declared.sheet.Item.{Item}
use Rattle.css_model.specs.declared.sheet.Item.TheVariants.{Rule}
use Rattle.css_model.specs.Cascade.Order.{Pair, IsPairAt, IsLast, IsBefore}
use Rattle.css_model.specs.Cascade.Winner.{Place, IsLater}
use Rattle.plan_laws.specs.Barrier.Keyed.{without_order_keys, Ascends, Key, IsBelow, StandsAt, IsLastKey, IsKeyedBefore}

abbrev place : ℕ → ℕ → Place
place item position = record { item = item; position = position }

-- of two numbers one is less, or they are equal
pub which_less : (a b : ℕ) → (a < b) ⊎ (a ≡ b) ⊎ (b < a)
which_less zero zero = inr (inl refl)
which_less zero (suc b) = inl (omega arith)
which_less (suc a) zero = inr (inr (omega arith))
which_less (suc a) (suc b) = next (which_less a b)
  where
    next : (a < b) ⊎ (a ≡ b) ⊎ (b < a) → (suc a < suc b) ⊎ (suc a ≡ suc b) ⊎ (suc b < suc a)
    next (inl h) = inl (omega arith)
    next (inr (inl e)) = inr (inl (ap suc e))
    next (inr (inr h)) = inr (inr (omega arith))

abbrev pub key : ℕ → ℕ → Key
key order_key decl = record { order_key = order_key; decl = decl }

-- an item with its order key
order_keyed : (keyed : List (ℕ × Item)) (i : ℕ) (x : Item) → slice_get (without_order_keys keyed) i ≡ Some x → (l : ℕ) × (slice_get keyed i ≡ Some (l, x))
order_keyed [] i x at = absurd (let e : None ≡ Some x = at in cc)
order_keyed (e ∷ keyed) zero x at = (e.0, ap (λ (y : Item). Some (e.0, y)) (some-same at))
order_keyed (e ∷ keyed) (suc i) x at = order_keyed keyed i x at

without_order_key : (keyed : List (ℕ × Item)) (i l : ℕ) (x : Item) → slice_get keyed i ≡ Some (l, x) → slice_get (without_order_keys keyed) i ≡ Some x
without_order_key [] i l x at = absurd (let e : None ≡ Some (l, x) = at in cc)
without_order_key (e ∷ keyed) zero l x at = ap (λ (f : ℕ × Item). Some f.1) (some-same at)
without_order_key (e ∷ keyed) (suc i) l x at = without_order_key keyed i l x at

-- order keys ascend with the numbers
pub ascending : (keyed : List (ℕ × Item)) → Ascends keyed → (i j : ℕ) (e f : ℕ × Item) → slice_get keyed i ≡ Some e → slice_get keyed j ≡ Some f → i < j → e.0 < f.0
ascending keyed up i j e f at at' less =
    let far : j < length keyed = slice_get_within keyed j f at' in
    let l = up i j e less far in
    let here = get_or_from_slice_get keyed i e e at in
    let there = get_or_from_slice_get keyed j f e at' in
    subst (λ (x : ℕ × Item). x.0 < f.0) here (subst (λ (y : ℕ × Item). (slice_index_or keyed i e).0 < y.0) there l)

pub same_order_key : (keyed : List (ℕ × Item)) (i j : ℕ) (e f : ℕ × Item) → slice_get keyed i ≡ Some e → slice_get keyed j ≡ Some f → i ≡ j → e.0 ≡ f.0
same_order_key keyed i j e f at at' same = ap (λ (y : ℕ × Item). y.0) (some-same (sym at ∙ ap (slice_get keyed) same ∙ at'))

less_key : (keyed : List (ℕ × Item)) → Ascends keyed → (i j k m : ℕ) (e f : ℕ × Item) → slice_get keyed i ≡ Some e → slice_get keyed j ≡ Some f → IsLater (place j m) (place i k) → IsBelow (key e.0 k) (key f.0 m)
less_key keyed up i j k m e f at at' (inl h) = inl (ascending keyed up i j e f at at' h)
less_key keyed up i j k m e f at at' (inr h) = inr (same_order_key keyed i j e f at at' (sym h.0), h.1)

later_place : (keyed : List (ℕ × Item)) → Ascends keyed → (i j k m : ℕ) (e f : ℕ × Item) → slice_get keyed i ≡ Some e → slice_get keyed j ≡ Some f → IsBelow (key e.0 k) (key f.0 m) → IsLater (place j m) (place i k)
later_place keyed up i j k m e f at at' less = which (which_less i j) less
  where
    which : (i < j) ⊎ (i ≡ j) ⊎ (j < i) → IsBelow (key e.0 k) (key f.0 m) → IsLater (place j m) (place i k)
    which (inl h) g = inl h
    which (inr (inl same)) (inl g) = let s : e.0 ≡ f.0 = same_order_key keyed i j e f at at' same in absurd (omega (arith, s, g))
    which (inr (inl same)) (inr g) = inr (sym same, g.1)
    which (inr (inr h)) (inl g) = let s : f.0 < e.0 = ascending keyed up j i f e at' at h in absurd (omega (arith, s, g))
    which (inr (inr h)) (inr g) = let s : f.0 < e.0 = ascending keyed up j i f e at' at h in absurd (omega (arith, s, g.0))

stands_back : (keyed : List (ℕ × Item)) (p : Pair) (x : Key) (s : StandsAt keyed p x) → IsPairAt (without_order_keys keyed) p (place s.index x.decl)
stands_back keyed p x s = record { rule = s.rule; decl = s.decl; rule_at = without_order_key keyed s.index x.order_key (Rule s.rule) s.rule_at; selector_in = s.selector_in; decl_at = s.decl_at; decl_is = s.decl_is }

-- a last place, with its order key
record LastThere (keyed : List (ℕ × Item)) (p : Pair) (at : Place) : Type 0 where
  order_key : ℕ
  item : Item
  here : slice_get keyed at.item ≡ Some (order_key, item)
  last : IsLastKey keyed p (key order_key at.position)

last_there : (keyed : List (ℕ × Item)) → Ascends keyed → (p : Pair) (at : Place) → IsLast (without_order_keys keyed) p at → LastThere keyed p at
last_there keyed up p at h =
    let w : (l : ℕ) × (slice_get keyed at.item ≡ Some (l, Rule h.stands.rule)) = order_keyed keyed at.item (Rule h.stands.rule) h.stands.rule_at in
    record {
      order_key = w.0;
      item = Rule h.stands.rule;
      here = w.1;
      last = record {
        stands = record { index = at.item; rule = h.stands.rule; decl = h.stands.decl; rule_at = w.1; selector_in = h.stands.selector_in; decl_at = h.stands.decl_at; decl_is = h.stands.decl_is };
        last = λ x s less. h.last (place s.index x.decl) (stands_back keyed p x s) (later_place keyed up at.item s.index at.position x.decl (w.0, Rule h.stands.rule) (x.order_key, Rule s.rule) w.1 s.rule_at less);
      };
    }

last_back : (keyed : List (ℕ × Item)) → Ascends keyed → (p : Pair) (x : Key) (h : IsLastKey keyed p x) → IsLast (without_order_keys keyed) p (place h.stands.index x.decl)
last_back keyed up p x h = record { stands = stands_back keyed p x h.stands; last = λ other g later. no_later other.item other.position g later }
  where
    no_later : (i m : ℕ) → IsPairAt (without_order_keys keyed) p (place i m) → IsLater (place i m) (place h.stands.index x.decl) → ⊥
    no_later i m g later =
        let w : (l : ℕ) × (slice_get keyed i ≡ Some (l, Rule g.rule)) = order_keyed keyed i (Rule g.rule) g.rule_at in
        h.last (key w.0 m) (record { index = i; rule = g.rule; decl = g.decl; rule_at = w.1; selector_in = g.selector_in; decl_at = g.decl_at; decl_is = g.decl_is })
        (less_key keyed up h.stands.index i x.decl m (x.order_key, Rule h.stands.rule) (w.0, Rule g.rule) h.stands.rule_at w.1 later)

pub keys_are_order : (keyed : List (ℕ × Item)) → Ascends keyed → (p q : Pair) → IsBefore (without_order_keys keyed) p q ↔ IsKeyedBefore keyed p q
keys_are_order keyed up p q = (there, back)
  where
    there : IsBefore (without_order_keys keyed) p q → IsKeyedBefore keyed p q
    there b =
        let l : LastThere keyed p b.place = last_there keyed up p b.place b.first in
        let m : LastThere keyed q b.later = last_there keyed up q b.later b.second in
        record {
          key = key l.order_key b.place.position;
          later = key m.order_key b.later.position;
          first = l.last;
          second = m.last;
          before = less_key keyed up b.place.item b.later.item b.place.position b.later.position (l.order_key, l.item) (m.order_key, m.item) l.here m.here b.before;
        }

    back : IsKeyedBefore keyed p q → IsBefore (without_order_keys keyed) p q
    back b = record {
      place = place b.first.stands.index b.key.decl;
      later = place b.second.stands.index b.later.decl;
      first = last_back keyed up p b.key b.first;
      second = last_back keyed up q b.later b.second;
      before = later_place keyed up b.first.stands.index b.second.stands.index b.key.decl b.later.decl (b.key.order_key, Rule b.first.stands.rule) (b.later.order_key, Rule b.second.stands.rule) b.first.stands.rule_at b.second.stands.rule_at b.before;
    }
