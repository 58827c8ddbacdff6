-- What is reversed with a pair whose last key changes.
use Rattle.std.proofs.Common.{◌≡◌, ◌≢◌, ◌↔◌, ◌⊎◌, ℕ, ◌<◌, List, Some, sym, ap, ap₂, ◌∙◌, subst, inl, inr, arith}
use Rattle.std.specs.Prelude.{slice_get}
use Rattle.cascade_laws.proofs.ForCallers.{some-same, rule-same}
use Rattle.css_model.specs.declared.sheet.DeclItem.{DeclItem}
use Rattle.css_model.specs.declared.sheet.Item.{Item}
use Rattle.css_model.specs.declared.sheet.Item.TheVariants.{Rule}
use Rattle.css_model.specs.Cascade.Order.{Pair, IsBefore}
use Rattle.css_model.specs.Sheets.RuleParts.{RuleParts}
use Rattle.order_laws.specs.Reversing.{Differ}
use Rattle.plan_laws.specs.Barrier.Keyed.{without_order_keys, Ascends, Key, IsBelow, StandsAt, IsLastKey, IsKeyedBefore, IsBetween}
use Rattle.plan_laws.proofs.Barrier.Keys.{key, which_less, ascending, keys_are_order}

-- of two keys one is below, or they are equal
which_key : (x y : Key) → IsBelow x y ⊎ (x ≡ y) ⊎ IsBelow y x
which_key x y = order_key (which_less x.order_key y.order_key) (which_less x.decl y.decl)
  where
    order_key : (x.order_key < y.order_key) ⊎ (x.order_key ≡ y.order_key) ⊎ (y.order_key < x.order_key) → (x.decl < y.decl) ⊎ (x.decl ≡ y.decl) ⊎ (y.decl < x.decl) → IsBelow x y ⊎ (x ≡ y) ⊎ IsBelow y x
    order_key (inl h) other = inl (inl h)
    order_key (inr (inr h)) other = inr (inr (inl h))
    order_key (inr (inl e)) (inl h) = inl (inr (e, h))
    order_key (inr (inl e)) (inr (inl g)) = inr (inl (ap₂ (λ l d. key l d) e g))
    order_key (inr (inl e)) (inr (inr h)) = inr (inr (inr (sym e, h)))

key_one_way : (x y : Key) → IsBelow x y → IsBelow y x → ⊥
key_one_way x y (inl h) (inl g) = absurd (omega arith)
key_one_way x y (inl h) (inr g) = absurd (omega (arith, h, g.0))
key_one_way x y (inr h) (inl g) = absurd (omega (arith, h.0, g))
key_one_way x y (inr h) (inr g) = absurd (omega (arith, h.1, g.1))

-- pairs with other declarations have other keys
other_keys : (keyed : List (ℕ × Item)) → Ascends keyed → (p q : Pair) → p.decl ≢ q.decl → (x y : Key) → StandsAt keyed p x → StandsAt keyed q y → x ≡ y → ⊥
other_keys keyed up p q apart x y s t e = which (which_less s.index t.index)
  where
    order_keys : x.order_key ≡ y.order_key
    order_keys = ap (λ (k : Key). k.order_key) e

    which : (s.index < t.index) ⊎ (s.index ≡ t.index) ⊎ (t.index < s.index) → ⊥
    which (inl h) = let r : x.order_key < y.order_key = ascending keyed up s.index t.index (x.order_key, Rule s.rule) (y.order_key, Rule t.rule) s.rule_at t.rule_at h in absurd (omega (arith, r, order_keys))
    which (inr (inr h)) = let r : y.order_key < x.order_key = ascending keyed up t.index s.index (y.order_key, Rule t.rule) (x.order_key, Rule s.rule) t.rule_at s.rule_at h in absurd (omega (arith, r, order_keys))
    which (inr (inl same)) =
        let items : Rule s.rule ≡ Rule t.rule = ap (λ (z : ℕ × Item). z.1) (some-same (sym s.rule_at ∙ ap (slice_get keyed) same ∙ t.rule_at)) in
        let rules : s.rule ≡ t.rule = rule-same items in
        let at : slice_get t.rule.decls y.decl ≡ Some s.decl = subst (λ (i : ℕ). slice_get t.rule.decls i ≡ Some s.decl) (ap (λ (k : Key). k.decl) e) (subst (λ (r : RuleParts). slice_get r.decls x.decl ≡ Some s.decl) rules s.decl_at) in
        apart (sym s.decl_is ∙ ap (λ (d : DeclItem). d.decl) (some-same (sym at ∙ t.decl_at)) ∙ t.decl_is)

-- a last key is one
last_one : (keyed : List (ℕ × Item)) (p : Pair) (x y : Key) → IsLastKey keyed p x → IsLastKey keyed p y → x ≡ y
last_one keyed p x y a b = which (which_key x y)
  where
    which : IsBelow x y ⊎ (x ≡ y) ⊎ IsBelow y x → x ≡ y
    which (inl h) = absurd (a.last y b.stands h)
    which (inr (inl e)) = e
    which (inr (inr h)) = absurd (b.last x a.stands h)

below_is : (keyed : List (ℕ × Item)) → Ascends keyed → (p q : Pair) (x y : Key) → IsLastKey keyed p x → IsLastKey keyed q y → IsBefore (without_order_keys keyed) p q ↔ IsBelow x y
below_is keyed up p q x y a b = (there, λ h. (keys_are_order keyed up p q).1 (record { key = x; later = y; first = a; second = b; before = h }))
  where
    there : IsBefore (without_order_keys keyed) p q → IsBelow x y
    there h =
        let w : IsKeyedBefore keyed p q = (keys_are_order keyed up p q).0 h in
        subst (λ (k : Key). IsBelow k y) (last_one keyed p w.key x w.first a) (subst (λ (k : Key). IsBelow w.key k) (last_one keyed q w.later y w.second b) w.before)

pub reversed_where_between : (old new : List (ℕ × Item)) → Ascends old → Ascends new → (p q : Pair) → p.decl ≢ q.decl → (from to stays : Key) →
    IsLastKey old p from → IsLastKey new p to → IsLastKey old q stays → IsLastKey new q stays →
    Differ (IsBefore (without_order_keys old) p q) (IsBefore (without_order_keys new) p q) ↔ (IsBetween from stays to ⊎ IsBetween to stays from)
reversed_where_between old new up up' p q apart from to stays a a' b b' = (there, back)
  where
    before : IsBefore (without_order_keys old) p q ↔ IsBelow from stays
    before = below_is old up p q from stays a b

    after : IsBefore (without_order_keys new) p q ↔ IsBelow to stays
    after = below_is new up' p q to stays a' b'

    -- what is not below is above
    above : (x : Key) → (x ≡ stays → ⊥) → (IsBelow x stays → ⊥) → IsBelow stays x
    above x other h = which (which_key x stays)
      where
        which : IsBelow x stays ⊎ (x ≡ stays) ⊎ IsBelow stays x → IsBelow stays x
        which (inl g) = absurd (h g)
        which (inr (inl e)) = absurd (other e)
        which (inr (inr g)) = g

    there : Differ (IsBefore (without_order_keys old) p q) (IsBefore (without_order_keys new) p q) → IsBetween from stays to ⊎ IsBetween to stays from
    there (inl (h, none)) = inl (before.0 h, above to (other_keys new up' p q apart to stays a'.stands b'.stands) (λ g. none (after.1 g)))
    there (inr (none, h)) = inr (after.0 h, above from (other_keys old up p q apart from stays a.stands b.stands) (λ g. none (before.1 g)))

    back : IsBetween from stays to ⊎ IsBetween to stays from → Differ (IsBefore (without_order_keys old) p q) (IsBefore (without_order_keys new) p q)
    back (inl (h, g)) = inl (before.1 h, λ b. key_one_way to stays (after.0 b) g)
    back (inr (h, g)) = inr (λ b. key_one_way from stays (before.0 b) g, after.1 h)
