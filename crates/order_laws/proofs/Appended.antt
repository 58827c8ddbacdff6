-- Where the pairs of two lists of items stand when one list follows the other.
use Rattle.std.proofs.Common.{◌≡◌, ◌↔◌, ◌⊎◌, ℕ, zero, suc, ◌+◌, ◌<◌, List, [], ◌∷◌, ◌++◌, length, Some, None, refl, sym, ap, ◌∙◌, subst, inl, inr, arith}
use Rattle.css_model.specs.declared.sheet.Item.{Item}
use Rattle.css_model.specs.declared.sheet.Item.TheVariants.{Rule, KeptRule, KeptBlock}
use Rattle.css_model.specs.Cascade.Winner.{Place, IsLater}
use Rattle.css_model.specs.Sheets.KeptItems.{kept_before, kept_items}
use Rattle.css_model.specs.Cascade.Order.{Pair, IsPairAt, HasPair, IsLast, IsBefore}
use Rattle.order_laws.proofs.LastPlaces.{among, behind, last_or_none, last_of}
use Rattle.order_laws.proofs.PlaceOrder.{which_later}

abbrev place : ℕ → ℕ → Place
place item position = record { item = item; position = position }

-- ---- Places

pub at_right : (xs ys : List Item) (p : Pair) (n k : ℕ) → IsPairAt ys p (place n k) → IsPairAt (xs ++ ys) p (place (length xs + n) k)
at_right [] ys p n k h = subst (λ (i : ℕ). IsPairAt ys p (place i k)) (omega arith) h
at_right (x ∷ xs) ys p n k h = subst (λ (i : ℕ). IsPairAt (x ∷ xs ++ ys) p (place i k)) (omega arith) (behind x (xs ++ ys) p (length xs + n) k (at_right xs ys p n k h))

pub at_left : (xs ys : List Item) (p : Pair) (n k : ℕ) → IsPairAt xs p (place n k) → IsPairAt (xs ++ ys) p (place n k)
at_left [] ys p n k h = absurd (let e : None ≡ Some (Rule h.rule) = h.rule_at in cc)
at_left (x ∷ xs) ys p zero k h = record { rule = h.rule; decl = h.decl; rule_at = h.rule_at; selector_in = h.selector_in; decl_at = h.decl_at; decl_is = h.decl_is }
at_left (x ∷ xs) ys p (suc n) k h = behind x (xs ++ ys) p n k (at_left xs ys p n k (among x xs p n k h))

-- in the first list, or in the second
abbrev pub InEither : List Item → List Item → Pair → ℕ → ℕ → Type 0
InEither xs ys p n k = ((n < length xs) × IsPairAt xs p (place n k)) ⊎ ((m : ℕ) × (n ≡ length xs + m) × IsPairAt ys p (place m k))

pub in_either : (xs ys : List Item) (p : Pair) (n k : ℕ) → IsPairAt (xs ++ ys) p (place n k) → InEither xs ys p n k
in_either [] ys p n k h = inr (n, omega arith, h)
in_either (x ∷ xs) ys p zero k h = inl (omega arith, record { rule = h.rule; decl = h.decl; rule_at = h.rule_at; selector_in = h.selector_in; decl_at = h.decl_at; decl_is = h.decl_is })
in_either (x ∷ xs) ys p (suc n) k h = which (in_either xs ys p n k (among x (xs ++ ys) p n k h))
  where
    which : InEither xs ys p n k → InEither (x ∷ xs) ys p (suc n) k
    which (inl g) = inl (omega (arith, g.0), behind x xs p n k g.1)
    which (inr g) = inr (g.0, omega (arith, g.1), g.2)

below_length : (xs : List Item) (p : Pair) (n k : ℕ) → IsPairAt xs p (place n k) → n < length xs
below_length [] p n k h = absurd (let e : None ≡ Some (Rule h.rule) = h.rule_at in cc)
below_length (x ∷ xs) p zero k h = omega arith
below_length (x ∷ xs) p (suc n) k h = let l : n < length xs = below_length xs p n k (among x xs p n k h) in omega arith

pub has_append : (xs ys : List Item) (p : Pair) → HasPair (xs ++ ys) p ↔ (HasPair xs p ⊎ HasPair ys p)
has_append xs ys p = (λ h. there h.0.item h.0.position (in_either xs ys p h.0.item h.0.position h.1), back)
  where
    there : (n k : ℕ) → InEither xs ys p n k → HasPair xs p ⊎ HasPair ys p
    there n k (inl g) = inl (place n k, g.1)
    there n k (inr g) = inr (place g.0 k, g.2)

    back : HasPair xs p ⊎ HasPair ys p → HasPair (xs ++ ys) p
    back (inl h) = (h.0, at_left xs ys p h.0.item h.0.position h.1)
    back (inr h) = (place (length xs + h.0.item) h.0.position, at_right xs ys p h.0.item h.0.position h.1)

-- ---- Last places

pub last_same : (items : List Item) (p : Pair) (q r : Place) → IsLast items p q → IsLast items p r → q ≡ r
last_same items p q r l m = which (which_later q r)
  where
    which : IsLater q r ⊎ (q ≡ r) ⊎ IsLater r q → q ≡ r
    which (inl h) = absurd (m.last q l.stands h)
    which (inr (inl e)) = e
    which (inr (inr h)) = absurd (l.last r m.stands h)

-- a place of the second list
abbrev pub shifted : List Item → Place → Place
shifted xs q = place (length xs + q.item) q.position

pub last_right : (xs ys : List Item) (p : Pair) (q : Place) → IsLast ys p q → IsLast (xs ++ ys) p (shifted xs q)
last_right xs ys p q l = record { stands = at_right xs ys p q.item q.position l.stands; last = λ other h. later other.item other.position (in_either xs ys p other.item other.position h) }
  where
    later : (n k : ℕ) → InEither xs ys p n k → IsLater (place n k) (shifted xs q) → ⊥
    later n k (inl g) (inl h) = absurd (omega (arith, g.0, h))
    later n k (inl g) (inr h) = absurd (omega (arith, g.0, h.0))
    later n k (inr g) (inl h) = l.last (place g.0 k) g.2 (inl (omega (arith, g.1, h)))
    later n k (inr g) (inr h) = l.last (place g.0 k) g.2 (inr (omega (arith, g.1, h.0), h.1))

pub last_left : (xs ys : List Item) (p : Pair) (q : Place) → (HasPair ys p → ⊥) → IsLast xs p q → IsLast (xs ++ ys) p q
last_left xs ys p q none l = record { stands = at_left xs ys p q.item q.position l.stands; last = λ other h. later other.item other.position (in_either xs ys p other.item other.position h) }
  where
    later : (n k : ℕ) → InEither xs ys p n k → IsLater (place n k) q → ⊥
    later n k (inl g) h = l.last (place n k) g.1 h
    later n k (inr g) h = none (place g.0 k, g.2)

-- where the last place of a pair is, of two lists
abbrev pub LastOfTwo : List Item → List Item → Pair → Place → Type 0
LastOfTwo xs ys p r = ((q : Place) × IsLast ys p q × (r ≡ shifted xs q)) ⊎ ((HasPair ys p → ⊥) × IsLast xs p r)

pub last_of_two : (xs ys : List Item) (p : Pair) (r : Place) → IsLast (xs ++ ys) p r → LastOfTwo xs ys p r
last_of_two xs ys p r l = which (last_or_none ys p)
  where
    first : (HasPair ys p → ⊥) → InEither xs ys p r.item r.position → LastOfTwo xs ys p r
    first none (inl g) = inr (none, record { stands = g.1; last = λ other h. l.last other (at_left xs ys p other.item other.position h) })
    first none (inr g) = absurd (none (place g.0 r.position, g.2))

    which : ((q : Place) × IsLast ys p q) ⊎ ((q : Place) → IsPairAt ys p q → ⊥) → LastOfTwo xs ys p r
    which (inl m) = inl (m.0, m.1, last_same (xs ++ ys) p r (shifted xs m.0) l (last_right xs ys p m.0 m.1))
    which (inr none) = first (λ h. none h.0 h.1) (in_either xs ys p r.item r.position l.stands)

-- ---- The order of two pairs

abbrev pub BeforeInTwo : List Item → List Item → Pair → Pair → Type 0
BeforeInTwo xs ys p q = IsBefore ys p q ⊎ (HasPair xs p × (HasPair ys p → ⊥) × HasPair ys q) ⊎ ((HasPair ys p → ⊥) × (HasPair ys q → ⊥) × IsBefore xs p q)

before_there : (xs ys : List Item) (p q : Pair) (b : IsBefore (xs ++ ys) p q) → LastOfTwo xs ys p b.place → LastOfTwo xs ys q b.later → BeforeInTwo xs ys p q
before_there xs ys p q b (inl l) (inl m) = inl (record { place = l.0; later = m.0; first = l.1; second = m.1; before = order l.0 m.0 (subst (λ (x : Place). IsLater x (shifted xs l.0)) m.2 (subst (λ (x : Place). IsLater b.later x) l.2 b.before)) })
  where
    order : (r s : Place) → IsLater (shifted xs s) (shifted xs r) → IsLater s r
    order r s (inl h) = inl (omega arith)
    order r s (inr h) = inr (omega (arith, h.0), h.1)
before_there xs ys p q b (inl l) (inr m) = absurd (apart (subst (λ (x : Place). IsLater b.later x) l.2 b.before) (below_length xs q b.later.item b.later.position m.1.stands))
  where
    apart : IsLater b.later (shifted xs l.0) → b.later.item < length xs → ⊥
    apart (inl h) less = absurd (omega arith)
    apart (inr h) less = absurd (omega (arith, h.0, less))
before_there xs ys p q b (inr l) (inl m) = inr (inl ((b.place, l.1.stands), l.0, (m.0, m.1.stands)))
before_there xs ys p q b (inr l) (inr m) = inr (inr (l.0, m.0, record { place = b.place; later = b.later; first = l.1; second = m.1; before = b.before }))

pub before_in_two : (xs ys : List Item) (p q : Pair) → IsBefore (xs ++ ys) p q ↔ BeforeInTwo xs ys p q
before_in_two xs ys p q = (λ b. before_there xs ys p q b (last_of_two xs ys p b.place b.first) (last_of_two xs ys q b.later b.second), back)
  where
    order : (r s : Place) → IsLater s r → IsLater (shifted xs s) (shifted xs r)
    order r s (inl h) = inl (omega arith)
    order r s (inr h) = inr (omega (arith, h.0), h.1)

    back : BeforeInTwo xs ys p q → IsBefore (xs ++ ys) p q
    back (inl b) = record { place = shifted xs b.place; later = shifted xs b.later; first = last_right xs ys p b.place b.first; second = last_right xs ys q b.later b.second; before = order b.place b.later b.before }
    back (inr (inl (has, none, later))) =
        let l : (r : Place) × IsLast xs p r = last_of xs p has in
        let m : (r : Place) × IsLast ys q r = last_of ys q later in
        let less : l.0.item < length xs = below_length xs p l.0.item l.0.position l.1.stands in
        record { place = l.0; later = shifted xs m.0; first = last_left xs ys p l.0 none l.1; second = last_right xs ys q m.0 m.1; before = inl (omega (arith, less)) }
    back (inr (inr (none, none', b))) = record { place = b.place; later = b.later; first = last_left xs ys p b.place none b.first; second = last_left xs ys q b.later none' b.second; before = b.before }

-- ---- The kept items before the last place of a pair

-- so many kept items stand before it
pub record LastBehind (items : List Item) (p : Pair) (n : ℕ) : Type 0 where
  pub place : Place
  pub stands : IsLast items p place
  pub number : kept_before place.item items ≡ n

kept_left : (xs ys : List Item) (i : ℕ) → i < length xs → kept_before i (xs ++ ys) ≡ kept_before i xs
kept_left [] ys i h = absurd (omega arith)
kept_left (x ∷ xs) ys zero h = refl
kept_left (Rule r ∷ xs) ys (suc i) h = kept_left xs ys i (omega arith)
kept_left (KeptRule r ∷ xs) ys (suc i) h = ap suc (kept_left xs ys i (omega arith))
kept_left (KeptBlock r ∷ xs) ys (suc i) h = ap suc (kept_left xs ys i (omega arith))

more : (x : Item) (xs : List Item) (i : ℕ) → length (x ∷ xs) + i ≡ suc (length xs + i)
more x xs i = omega arith

kept_right : (xs ys : List Item) (i : ℕ) → kept_before (length xs + i) (xs ++ ys) ≡ length (kept_items xs) + kept_before i ys
kept_right [] ys i = let e : 0 + i ≡ i = omega arith in let g : kept_before i ys ≡ 0 + kept_before i ys = omega arith in ap (λ (j : ℕ). kept_before j ys) e ∙ g
kept_right (Rule r ∷ xs) ys i = ap (λ (j : ℕ). kept_before j (Rule r ∷ xs ++ ys)) (more (Rule r) xs i) ∙ kept_right xs ys i
kept_right (KeptRule r ∷ xs) ys i =
    let ih : kept_before (length xs + i) (xs ++ ys) ≡ length (kept_items xs) + kept_before i ys = kept_right xs ys i in
    let g : suc (kept_before (length xs + i) (xs ++ ys)) ≡ suc (length (kept_items xs)) + kept_before i ys = omega (arith, ih) in
    ap (λ (j : ℕ). kept_before j (KeptRule r ∷ xs ++ ys)) (more (KeptRule r) xs i) ∙ g
kept_right (KeptBlock r ∷ xs) ys i =
    let ih : kept_before (length xs + i) (xs ++ ys) ≡ length (kept_items xs) + kept_before i ys = kept_right xs ys i in
    let g : suc (kept_before (length xs + i) (xs ++ ys)) ≡ suc (length (kept_items xs)) + kept_before i ys = omega (arith, ih) in
    ap (λ (j : ℕ). kept_before j (KeptBlock r ∷ xs ++ ys)) (more (KeptBlock r) xs i) ∙ g

abbrev pub BehindInTwo : List Item → List Item → Pair → ℕ → Type 0
BehindInTwo xs ys p n = ((k : ℕ) × LastBehind ys p k × (n ≡ length (kept_items xs) + k)) ⊎ ((HasPair ys p → ⊥) × LastBehind xs p n)

pub behind_in_two : (xs ys : List Item) (p : Pair) (n : ℕ) → LastBehind (xs ++ ys) p n ↔ BehindInTwo xs ys p n
behind_in_two xs ys p n = (λ b. there b (last_of_two xs ys p b.place b.stands), back)
  where
    there : (b : LastBehind (xs ++ ys) p n) → LastOfTwo xs ys p b.place → BehindInTwo xs ys p n
    there b (inl l) = inl (kept_before l.0.item ys, record { place = l.0; stands = l.1; number = refl }, sym b.number ∙ ap (λ (q : Place). kept_before q.item (xs ++ ys)) l.2 ∙ kept_right xs ys l.0.item)
    there b (inr l) = inr (l.0, record { place = b.place; stands = l.1; number = sym (kept_left xs ys b.place.item (below_length xs p b.place.item b.place.position l.1.stands)) ∙ b.number })

    back : BehindInTwo xs ys p n → LastBehind (xs ++ ys) p n
    back (inl (k, b, e)) = record { place = shifted xs b.place; stands = last_right xs ys p b.place b.stands; number = kept_right xs ys b.place.item ∙ ap (λ (j : ℕ). length (kept_items xs) + j) b.number ∙ sym e }
    back (inr (none, b)) = record { place = b.place; stands = last_left xs ys p b.place none b.stands; number = kept_left xs ys b.place.item (below_length xs p b.place.item b.place.position b.stands.stands) ∙ b.number }
