-- A sheet without a declaration.
use Rattle.std.proofs.Common.{◌≡◌, ◌⊎◌, ℕ, zero, suc, ◌<◌, ◌≤◌, true, false, not, List, [], ◌∷◌, Option, Some, None, refl, sym, ap, ap₂, subst, inl, inr, arith}
use Rattle.std.specs.Prelude.{slice_get, remove}
use Rattle.std.specs.List.{Contains}
use Rattle.std.proofs.lemmas.Bool.{false≢true, not-false}
use Rattle.cascade_laws.proofs.ForCallers.{some-same, rule-same}
use Rattle.css_model.specs.declared.sheet.Item.{Item}
use Rattle.css_model.specs.declared.sheet.Item.TheVariants.{Rule, KeptRule, KeptBlock}
use Rattle.css_model.specs.declared.sheet.SelItem.{SelItem}
use Rattle.css_model.specs.Cascade.Order.{Pair, IsLast, IsPairAt}
use Rattle.css_model.specs.Cascade.Winner.{IsLater, Place}
use Rattle.css_model.specs.Documents.SelectorParts.{SelectorParts}
use Rattle.css_model.specs.Sheets.RuleParts.{RuleParts}
use Rattle.css_model.specs.Sheets.StyleRule.{selectors_of}
use Rattle.order_laws.specs.Places.{ListedStandsLast, PlacedPair, last_pairs, place_of}
use Rattle.order_laws.proofs.ForCallers.{map_has}
use Rattle.lint_laws.specs.Repeats.{OthersAreLast, decl_removed, is_here, last_in, pair_of, without_decl}
use Rattle.lint_laws.proofs.Finding.{all_fails}
use Rattle.lint_laws.proofs.LastPlace.{here_is, last_sound, later_elsewhere}

abbrev at : ℕ → ℕ → Place
at item position = record { item = item; position = position }

-- where a member of a list without one was
was_at : {X : Type 0} (xs : List X) (k j : ℕ) (y : X) → slice_get (remove xs k) j ≡ Some y → ((j < k) × (slice_get xs j ≡ Some y)) ⊎ ((k ≤ j) × (slice_get xs (suc j) ≡ Some y))
was_at [] zero j y h = absurd (let e : None ≡ Some y = h in cc)
was_at [] (suc k) j y h = absurd (let e : None ≡ Some y = h in cc)
was_at (x ∷ xs) zero j y h = inr (omega arith, h)
was_at (x ∷ xs) (suc k) zero y h = inl (omega arith, h)
was_at (x ∷ xs) (suc k) (suc j) y h = next (was_at xs k j y h)
  where
    next : ((j < k) × (slice_get xs j ≡ Some y)) ⊎ ((k ≤ j) × (slice_get xs (suc j) ≡ Some y)) →
        ((suc j < suc k) × (slice_get xs j ≡ Some y)) ⊎ ((suc k ≤ suc j) × (slice_get xs (suc j) ≡ Some y))
    next (inl w) = inl (let l : j < k = w.0 in omega arith, w.1)
    next (inr w) = inr (let l : k ≤ j = w.0 in omega arith, w.1)

-- where a pair of items without a declaration was: in another item, before the declaration, or behind it
abbrev WasAt : List Item → (i k : ℕ) → Pair → (n j : ℕ) → Type 0
WasAt items i k p n j = ((n ≡ i → ⊥) × IsPairAt items p (at n j)) ⊎ ((n ≡ i) × (j < k) × IsPairAt items p (at n j)) ⊎ ((n ≡ i) × (k ≤ j) × IsPairAt items p (at n (suc j)))

-- in the item itself
in_item : (item : Item) (items : List Item) (k : ℕ) (p : Pair) (j : ℕ) → IsPairAt (decl_removed k item ∷ items) p (at 0 j) → WasAt (item ∷ items) 0 k p 0 j
in_item (KeptRule kept) items k p j h = absurd (let e : Some (KeptRule kept) ≡ Some (Rule h.rule) = h.rule_at in cc)
in_item (KeptBlock piece) items k p j h = absurd (let e : Some (KeptBlock piece) ≡ Some (Rule h.rule) = h.rule_at in cc)
in_item (Rule r) items k p j h =
    which (was_at r.decls k j h.decl (subst (λ (q : RuleParts). slice_get q.decls j ≡ Some h.decl) (sym (rule-same (some-same h.rule_at))) h.decl_at))
  where
    has : Contains (selectors_of r) p.selector
    has = subst (λ (q : RuleParts). Contains (selectors_of q) p.selector) (sym (rule-same (some-same h.rule_at))) h.selector_in

    which : ((j < k) × (slice_get r.decls j ≡ Some h.decl)) ⊎ ((k ≤ j) × (slice_get r.decls (suc j) ≡ Some h.decl)) → WasAt (Rule r ∷ items) 0 k p 0 j
    which (inl w) = inr (inl (refl, w.0, record { rule = r; decl = h.decl; rule_at = refl; selector_in = has; decl_at = w.1; decl_is = h.decl_is }))
    which (inr w) = inr (inr (refl, w.0, record { rule = r; decl = h.decl; rule_at = refl; selector_in = has; decl_at = w.1; decl_is = h.decl_is }))

-- a pair of later items
behind : (item : Item) (items : List Item) (p : Pair) (n j : ℕ) → IsPairAt items p (at n j) → IsPairAt (item ∷ items) p (at (suc n) j)
behind item items p n j h = record { rule = h.rule; decl = h.decl; rule_at = h.rule_at; selector_in = h.selector_in; decl_at = h.decl_at; decl_is = h.decl_is }

was : (items : List Item) (i k : ℕ) (p : Pair) (n j : ℕ) → IsPairAt (without_decl items i k) p (at n j) → WasAt items i k p n j
was [] i k p n j h = absurd (let e : None ≡ Some (Rule h.rule) = h.rule_at in cc)
was (item ∷ items) zero k p zero j h = in_item item items k p j (record { rule = h.rule; decl = h.decl; rule_at = h.rule_at; selector_in = h.selector_in; decl_at = h.decl_at; decl_is = h.decl_is })
was (item ∷ items) zero k p (suc n) j h =
    inl ((λ e. absurd (omega (arith, e))), record { rule = h.rule; decl = h.decl; rule_at = h.rule_at; selector_in = h.selector_in; decl_at = h.decl_at; decl_is = h.decl_is })
was (item ∷ items) (suc i) k p zero j h =
    inl ((λ e. absurd (omega (arith, e))), record { rule = h.rule; decl = h.decl; rule_at = h.rule_at; selector_in = h.selector_in; decl_at = h.decl_at; decl_is = h.decl_is })
was (item ∷ items) (suc i) k p (suc n) j h =
    next (was items i k p n j (record { rule = h.rule; decl = h.decl; rule_at = h.rule_at; selector_in = h.selector_in; decl_at = h.decl_at; decl_is = h.decl_is }))
  where
    next : WasAt items i k p n j → WasAt (item ∷ items) (suc i) k p (suc n) j
    next (inl w) = inl ((λ e. w.0 (let f : suc n ≡ suc i = e in omega arith)), behind item items p n j w.1)
    next (inr (inl w)) = inr (inl (ap suc w.0, w.1, behind item items p n j w.2))
    next (inr (inr w)) = inr (inr (ap suc w.0, w.1, behind item items p n (suc j) w.2))

-- the law `OthersAreLast`
pub others_last : ListedStandsLast → OthersAreLast
others_last law items place rule d rule_at decl_at single = which (last_in (last_pairs items) (pair_of found.0.selector d.decl)) refl here
  where
    found : (x : SelItem) × Contains rule.selectors x × (not (is_here place.item place.position (last_in (last_pairs items) (pair_of x.selector d.decl))) ≡ false)
    found = all_fails (λ (x : SelItem). not (is_here place.item place.position (last_in (last_pairs items) (pair_of x.selector d.decl)))) rule.selectors single

    has : Contains (selectors_of rule) found.0.selector
    has = map_has (λ (y : SelItem). y.selector) rule.selectors found.0 found.1

    here : is_here place.item place.position (last_in (last_pairs items) (pair_of found.0.selector d.decl)) ≡ true
    here = not-false (is_here place.item place.position (last_in (last_pairs items) (pair_of found.0.selector d.decl))) found.2

    stands : IsPairAt items (pair_of found.0.selector d.decl) place
    stands = record { rule = rule; decl = d; rule_at = rule_at; selector_in = has; decl_at = decl_at; decl_is = refl }

    earlier : IsLast items (pair_of found.0.selector d.decl) place → (other : Place) → IsPairAt (without_decl items place.item place.position) (pair_of found.0.selector d.decl) other → IsLater place other
    earlier l other h = from (was items place.item place.position (pair_of found.0.selector d.decl) other.item other.position h)
      where
        from : WasAt items place.item place.position (pair_of found.0.selector d.decl) other.item other.position → IsLater place other
        from (inl w) = later_elsewhere place other (l.last other w.1) (λ i k. w.0 (sym i))
        from (inr (inl w)) = inr (sym w.0, w.1)
        from (inr (inr w)) = absurd (l.last (at other.item (suc other.position)) w.2 (inr (w.0, let k : place.position ≤ other.position = w.1 in omega arith)))

    which : (o : Option PlacedPair) → last_in (last_pairs items) (pair_of found.0.selector d.decl) ≡ o → is_here place.item place.position o ≡ true →
        (s : SelectorParts) × Contains (selectors_of rule) s × IsLast items (pair_of s d.decl) place
        × ((other : Place) → IsPairAt (without_decl items place.item place.position) (pair_of s d.decl) other → IsLater place other)
    which None e h = absurd (false≢true h)
    which (Some x) e h =
        let numbers = here_is place.item place.position x h in
        let w = last_sound law items (pair_of found.0.selector d.decl) x e in
        let same : place_of x.place ≡ place = ap₂ (λ (n m : ℕ). record { item = n; position = m }) numbers.0 numbers.1 in
        let l : IsLast items (pair_of found.0.selector d.decl) place = record {
          stands = stands;
          last = λ other g later. w.1.last other (subst (λ (q : Pair). IsPairAt items q other) (sym w.0) g) refl (subst (λ (q : Place). IsLater other q) (sym same) later);
        } in
        (found.0.selector, has, l, earlier l)
