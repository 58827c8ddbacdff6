-- When the pairs of a part of a rule all stand in other rules too.
use Rattle.std.proofs.Common.{◌≡◌, ◌≢◌, ◌↔◌, ◌⊎◌, ℕ, zero, suc, ◌+◌, ◌<◌, Bool, true, false, List, [], ◌∷◌, ◌++◌, map, length, Some, None, refl, sym, ap, ap₂, subst, inl, inr, ◌∙◌, arith}
use Rattle.std.specs.Prelude.{slice_get}
use Rattle.std.specs.List.{Contains, remove}
use Rattle.std.proofs.lemmas.Option.{slice_get_within}
use Rattle.cascade_laws.proofs.ForCallers.{some-same}
use Rattle.list_facts.proofs.Members.{Contains-here, Contains-there, Contains-nil, Contains-cons_cases}
use Rattle.css_model.specs.declared.sheet.Decl.{Decl}
use Rattle.css_model.specs.declared.sheet.DeclItem.{DeclItem}
use Rattle.css_model.specs.declared.sheet.Item.{Item}
use Rattle.css_model.specs.declared.sheet.Item.TheVariants.{Rule}
use Rattle.css_model.specs.declared.sheet.SelItem.{SelItem}
use Rattle.css_model.specs.Cascade.Order.{Pair, HasPair}
use Rattle.css_model.specs.Documents.SelectorParts.{SelectorParts}
use Rattle.css_model.specs.Sheets.RuleParts.{RuleParts}
use Rattle.css_model.specs.Sheets.StyleRule.{selectors_of}
use Rattle.order_laws.proofs.ForCallers.{has_append, has_at, has_rule, has_decl_is, has_selector_is, InRule, decls, sels, decl_in, instead_here, instead_there, unchanged}
use Rattle.order_laws.specs.Edits.{Change, Moved, slots_from, edited, whole_rule}
use Rattle.order_laws.specs.Members.{has_selector, has_decl}
use Rattle.order_laws.specs.Slots.{new_items}
use Rattle.rule_tables.specs.Cutting.{AreTold, DeclCutsAreTold, SelectorCutsAreTold}
use Rattle.rule_tables.specs.Losing.{CanLoseDecl, CanLoseSelector, DeclIsSpare, SelectorIsSpare}
use Rattle.rule_tables.specs.Pairs.{AnotherHasBoth}
use Rattle.rule_tables.specs.Tables.{order_keyed}
use Rattle.rule_tables.proofs.OtherRules.{StandsWith, stands_with}
use Rattle.rule_tables.proofs.StepRules.{rules_are_order_keyed}
use Rattle.step_laws.specs.declared.step.Step.TheVariants.{CutDecl, CutSel}
use Rattle.step_laws.specs.RuleParting.{item_if_any, rule_or_none}
use Rattle.step_laws.specs.StepEdits.{one_change, cut_decl, cut_selector}
use Rattle.step_laws.specs.Steps.{HasStep, decls_of}

-- ---- What stands above a change, and below

record IsParted (items new : List Item) (n : ℕ) (r : RuleParts) (by : List Item) : Type 0 where
  above : List Item
  below : List Item
  old_is : items ≡ above ++ (Rule r ∷ below)
  others : remove items n ≡ above ++ below
  new_is : new ≡ above ++ (by ++ below)

abbrev change : ℕ → List Item → Change
change n by = record { at = n; by = by }

parted_from : (n i : ℕ) (by items : List Item) (r : RuleParts) → slice_get items i ≡ Some (Rule r) → IsParted items (new_items (slots_from n (change (n + i) by ∷ []) items)) i r by
parted_from n i by [] r at = absurd (let e : None ≡ Some (Rule r) = at in cc)
parted_from n zero by (x ∷ items) r at = record {
  above = [];
  below = items;
  old_is = ap (λ (z : Item). z ∷ items) (some-same at);
  others = refl;
  new_is = ap₂ (λ (xs ys : List Item). xs ++ ys) (instead_here (change (n + 0) by) [] n x (omega arith))
      (unchanged (change (n + 0) by ∷ []) (n + 1) items (λ k y later. instead_there (change (n + 0) by) [] k y (λ e. let f : n + 0 ≡ k = e in omega (arith, f, later))));
}
parted_from n (suc i) by (x ∷ items) r at =
    let e : (n + 1) + i ≡ n + suc i = omega arith in
    let w : IsParted items (new_items (slots_from (n + 1) (change (n + suc i) by ∷ []) items)) i r by =
    subst (λ (m : ℕ). IsParted items (new_items (slots_from (n + 1) (change m by ∷ []) items)) i r by) e (parted_from (n + 1) i by items r at) in
    record {
      above = x ∷ w.above;
      below = w.below;
      old_is = ap (λ (xs : List Item). x ∷ xs) w.old_is;
      others = ap (λ (xs : List Item). x ∷ xs) w.others;
      new_is = ap₂ (λ (xs ys : List Item). xs ++ ys) (instead_there (change (n + suc i) by) [] n x (λ e. let f : n + suc i ≡ n = e in omega (arith, f))) w.new_is;
    }

parted : (items : List Item) (n : ℕ) (by : List Item) (m : Moved) (r : RuleParts) → slice_get items n ≡ Some (Rule r) → IsParted items (edited (one_change n by m) items) n r by
parted items n by m r at =
    let e : 0 + n ≡ n = omega arith in
    subst (λ (i : ℕ). IsParted items (new_items (slots_from 0 (change i by ∷ []) items)) n r by) e (parted_from 0 n by items r at)

-- a rule in two parts of a sheet
in_front : (xs ys zs : List Item) (p : Pair) → HasPair ys p → HasPair (xs ++ (ys ++ zs)) p
in_front xs ys zs p h = (has_append xs (ys ++ zs) p).1 (inr ((has_append ys zs p).1 (inl h)))

around : (xs ys zs : List Item) (p : Pair) → HasPair (xs ++ zs) p → HasPair (xs ++ (ys ++ zs)) p
around xs ys zs p h = elim ((has_append xs zs p).0 h) [
  | inl g ↦ (has_append xs (ys ++ zs) p).1 (inl g)
  | inr g ↦ (has_append xs (ys ++ zs) p).1 (inr ((has_append ys zs p).1 (inr g)))
]

which_part : (xs ys zs : List Item) (p : Pair) → HasPair (xs ++ (ys ++ zs)) p → HasPair ys p ⊎ HasPair (xs ++ zs) p
which_part xs ys zs p h = elim ((has_append xs (ys ++ zs) p).0 h) [
  | inl g ↦ inr ((has_append xs zs p).1 (inl g))
  | inr g ↦ second ((has_append ys zs p).0 g)
]
  where
    second : HasPair ys p ⊎ HasPair zs p → HasPair ys p ⊎ HasPair (xs ++ zs) p
    second (inl g) = inl g
    second (inr g) = inr ((has_append xs zs p).1 (inr g))

-- no pair goes by a change of a rule: each of its pairs stands in what comes in its place, or in another item
goes_is : (items : List Item) (n : ℕ) (by : List Item) (m : Moved) (r : RuleParts) → slice_get items n ≡ Some (Rule r) →
    ((p : Pair) → HasPair items p → HasPair (edited (one_change n by m) items) p) ↔ ((p : Pair) → InRule r p → HasPair by p ⊎ HasPair (remove items n) p)
goes_is items n by m r at = (there, back)
  where
    w : IsParted items (edited (one_change n by m) items) n r by
    w = parted items n by m r at

    there : ((p : Pair) → HasPair items p → HasPair (edited (one_change n by m) items) p) → (p : Pair) → InRule r p → HasPair by p ⊎ HasPair (remove items n) p
    there goes p in_rule = elim (which_part w.above by w.below p (subst (λ (xs : List Item). HasPair xs p) w.new_is (goes p (has_at items n r p at in_rule)))) [
      | inl h ↦ inl h
      | inr h ↦ inr (subst (λ (xs : List Item). HasPair xs p) (sym w.others) h)
    ]

    back : ((p : Pair) → InRule r p → HasPair by p ⊎ HasPair (remove items n) p) → (p : Pair) → HasPair items p → HasPair (edited (one_change n by m) items) p
    back each p h = subst (λ (xs : List Item). HasPair xs p) (sym w.new_is) (which (which_part w.above (Rule r ∷ []) w.below p (subst (λ (xs : List Item). HasPair xs p) w.old_is h)))
      where
        here : HasPair by p ⊎ HasPair (remove items n) p → HasPair (w.above ++ (by ++ w.below)) p
        here (inl g) = in_front w.above by w.below p g
        here (inr g) = around w.above by w.below p (subst (λ (xs : List Item). HasPair xs p) w.others g)

        which : HasPair (Rule r ∷ []) p ⊎ HasPair (w.above ++ w.below) p → HasPair (w.above ++ (by ++ w.below)) p
        which (inl g) = here (each p ((has_rule r p).0 g))
        which (inr g) = around w.above by w.below p g

-- ---- Pairs of other items, and of rules with other order keys

-- a rule of another number has the pair
abbrev IsBeside : List Item → ℕ → Pair → Type 0
IsBeside items n p = (j : ℕ) × (j ≢ n) × (r : RuleParts) × (slice_get items j ≡ Some (Rule r)) × InRule r p

somewhere : (items : List Item) (p : Pair) → HasPair items p → (j : ℕ) × (r : RuleParts) × (slice_get items j ≡ Some (Rule r)) × InRule r p
somewhere items p (place, h) = (place.item, h.rule, h.rule_at, (h.selector_in, subst (λ (d : Decl). Contains (decls h.rule.decls) d) h.decl_is (decl_in h.rule.decls place.position h.decl h.decl_at)))

beside : (items : List Item) (n : ℕ) (p : Pair) → HasPair (remove items n) p → IsBeside items n p
beside [] zero p h = let w = somewhere [] p h in absurd (let e : None ≡ Some (Rule w.1) = w.2 in cc)
beside [] (suc n) p h = let w = somewhere [] p h in absurd (let e : None ≡ Some (Rule w.1) = w.2 in cc)
beside (x ∷ items) zero p h = let w = somewhere items p h in (suc w.0, (λ e. let f : suc w.0 ≡ 0 = e in omega (arith, f)), w.1, w.2, w.3)
beside (x ∷ items) (suc n) p h = which (λ g. beside items n p g) ((has_append (x ∷ []) (remove items n) p).0 h)
  where
    first : (j : ℕ) (r : RuleParts) → slice_get (x ∷ []) j ≡ Some (Rule r) → InRule r p → IsBeside (x ∷ items) (suc n) p
    first zero r at in_rule = (zero, (λ e. let f : 0 ≡ suc n = e in omega (arith, f)), r, at, in_rule)
    first (suc j) r at in_rule = absurd (let e : None ≡ Some (Rule r) = at in cc)

    which : (HasPair (remove items n) p → IsBeside items n p) → HasPair (x ∷ []) p ⊎ HasPair (remove items n) p → IsBeside (x ∷ items) (suc n) p
    which ih (inl g) = let w = somewhere (x ∷ []) p g in first w.0 w.1 w.2 w.3
    which ih (inr g) = let w = ih g in (suc w.0, (λ e. w.1 (let f : suc w.0 ≡ suc n = e in let k : w.0 ≡ n = omega (arith, f) in k)), w.2, w.3, w.4)

not_removed : (items : List Item) (n j : ℕ) (r : RuleParts) (p : Pair) → j ≢ n → slice_get items j ≡ Some (Rule r) → InRule r p → HasPair (remove items n) p
not_removed [] n j r p other at in_rule = absurd (let e : None ≡ Some (Rule r) = at in cc)
not_removed (x ∷ items) zero zero r p other at in_rule = absurd (other refl)
not_removed (x ∷ items) zero (suc j) r p other at in_rule = has_at items j r p at in_rule
not_removed (x ∷ items) (suc n) zero r p other at in_rule = (has_append (x ∷ []) (remove items n) p).1 (inl (has_at (x ∷ []) zero r p at in_rule))
not_removed (x ∷ items) (suc n) (suc j) r p other at in_rule =
    (has_append (x ∷ []) (remove items n) p).1 (inr (not_removed items n j r p (λ e. other (ap suc e)) at in_rule))

got : {X : Type 0} (xs : List X) (i : ℕ) → i < length xs → (x : X) × (slice_get xs i ≡ Some x)
got [] i less = absurd (omega (arith, less))
got (x ∷ xs) zero less = (x, refl)
got (x ∷ xs) (suc i) less = got xs i (omega (arith, less))

module _ (items : List Item) (order_keys : List ℕ) (told : AreTold items order_keys) (n own : ℕ) (own_at : slice_get order_keys n ≡ Some own) (s : SelectorParts) (d : Decl) where
  another : IsBeside items n (record { selector = s; decl = d }) → AnotherHasBoth (order_keyed items order_keys) own s d
  another (j, other, r, at, in_rule) =
      let within : j < length items = slice_get_within items j (Rule r) at in
      let l : (x : ℕ) × (slice_get order_keys j ≡ Some x) = got order_keys j (let same : length order_keys ≡ length items = told.beside in omega (arith, within, same)) in
      (l.0, (λ e. other (told.once j n own (l.1 ∙ ap (λ (x : ℕ). Some x) e) own_at)), (r, rules_are_order_keyed items order_keys j r l.0 at l.1, in_rule))

  of_another : AnotherHasBoth (order_keyed items order_keys) own s d → HasPair (remove items n) (record { selector = s; decl = d })
  of_another (order_key, other, (r, in_list, has)) =
      let w : StandsWith items order_keys r order_key = stands_with items order_keys r order_key in_list in
      not_removed items n w.0 r (record { selector = s; decl = d }) (λ e. other (let f : Some order_key ≡ Some own = sym w.2 ∙ ap (slice_get order_keys) e ∙ own_at in some-same f)) w.1 has

-- ---- What is left of a rule

none_stands : (p : Pair) → HasPair [] p → ⊥
none_stands p h = let e : None ≡ Some (Rule h.1.rule) = h.1.rule_at in cc

left_is : (q : RuleParts) (p : Pair) → HasPair (rule_or_none q) p ↔ InRule q p
left_is q p = by q.selectors q.decls refl refl
  where
    by : (ss : List SelItem) (ds : List DeclItem) → q.selectors ≡ ss → q.decls ≡ ds → HasPair (item_if_any ss ds q) p ↔ InRule q p
    by [] ds e f = (λ h. absurd (none_stands p h), λ h. absurd (Contains-nil p.selector (subst (λ (xs : List SelItem). Contains (sels xs) p.selector) e h.0)))
    by (s ∷ ss) [] e f = (λ h. absurd (none_stands p h), λ h. absurd (Contains-nil p.decl (subst (λ (xs : List DeclItem). Contains (decls xs) p.decl) f h.1)))
    by (s ∷ ss) (d ∷ ds) e f = has_rule q p

-- each element is the one of this number or among the others
other_or : {X Y : Type 0} (g : X → Y) (xs : List X) (i : ℕ) (x : X) (y : Y) → slice_get xs i ≡ Some x → Contains (map g xs) y → Contains (map g (remove xs i)) y ⊎ (g x ≡ y)
other_or g [] i x y at = λ h. absurd (Contains-nil y h)
other_or g (z ∷ xs) zero x y at = λ h. which (Contains-cons_cases (g z) (map g xs) y h)
  where
    which : (g z ≡ y) ⊎ Contains (map g xs) y → Contains (map g xs) y ⊎ (g x ≡ y)
    which (inl e) = inr (ap g (sym (some-same at)) ∙ e)
    which (inr h) = inl h
other_or g (z ∷ xs) (suc i) x y at = λ h. which (other_or g xs i x y at) (Contains-cons_cases (g z) (map g xs) y h)
  where
    deeper : Contains (map g (remove xs i)) y ⊎ (g x ≡ y) → Contains (map g (z ∷ remove xs i)) y ⊎ (g x ≡ y)
    deeper (inl k) = inl (Contains-there (g z) (map g (remove xs i)) y k)
    deeper (inr e) = inr e

    which : (Contains (map g xs) y → Contains (map g (remove xs i)) y ⊎ (g x ≡ y)) → (g z ≡ y) ⊎ Contains (map g xs) y → Contains (map g (z ∷ remove xs i)) y ⊎ (g x ≡ y)
    which ih (inl e) = inl (subst (Contains (map g (z ∷ remove xs i))) e (Contains-here (g z) (map g (remove xs i))))
    which ih (inr h) = deeper (ih h)

has_here : {X Y : Type 0} (g : X → Y) (xs : List X) (i : ℕ) (x : X) → slice_get xs i ≡ Some x → Contains (map g xs) (g x)
has_here g [] i x at = absurd (let e : None ≡ Some x = at in cc)
has_here g (z ∷ xs) zero x at = subst (Contains (map g (z ∷ xs))) (ap g (some-same at)) (Contains-here (g z) (map g xs))
has_here g (z ∷ xs) (suc i) x at = Contains-there (g z) (map g xs) (g x) (has_here g xs i x at)

same_rule : (items : List Item) (n : ℕ) (r q : RuleParts) → slice_get items n ≡ Some (Rule r) → slice_get items n ≡ Some (Rule q) → r ≡ q
same_rule items n r q a b = cc

-- ---- Cuts

decl_spare : (items : List Item) (order_keys : List ℕ) (n own i : ℕ) (r : RuleParts) (d : DeclItem) → AreTold items order_keys →
    slice_get items n ≡ Some (Rule r) → slice_get order_keys n ≡ Some own → slice_get r.decls i ≡ Some d → HasStep items (CutDecl n i) ↔ DeclIsSpare (order_keyed items order_keys) own r i d
decl_spare items order_keys n own i r d told at own_at part = (there, back)
  where
    left : RuleParts
    left = record { selectors = r.selectors; decls = remove r.decls i }

    there : HasStep items (CutDecl n i) → Contains (decls (remove r.decls i)) d.decl ⊎ ((s : SelectorParts) → Contains (selectors_of r) s → AnotherHasBoth (order_keyed items order_keys) own s d.decl)
    there (e, cut) = by (has_decl (remove r.decls i) d.decl) refl
      where
        each : (p : Pair) → InRule r p → HasPair (rule_or_none left) p ⊎ HasPair (remove items n) p
        each = (goes_is items n (rule_or_none left) (whole_rule n r) r at).0
            (subst (λ (q : RuleParts). (p : Pair) → HasPair items p → HasPair (edited (cut_decl n i q) items) p) (same_rule items n cut.rule r cut.rule_at at) cut.no_pair_goes)

        by : (b : Bool) → has_decl (remove r.decls i) d.decl ≡ b →
            Contains (decls (remove r.decls i)) d.decl ⊎ ((s : SelectorParts) → Contains (selectors_of r) s → AnotherHasBoth (order_keyed items order_keys) own s d.decl)
        by true g = inl ((has_decl_is (remove r.decls i) d.decl).0 g)
        by false g = inr (λ s h. stood s (each (record { selector = s; decl = d.decl }) (h, has_here (λ f. f.decl) r.decls i d part)))
          where
            stood : (s : SelectorParts) → HasPair (rule_or_none left) (record { selector = s; decl = d.decl }) ⊎ HasPair (remove items n) (record { selector = s; decl = d.decl }) → AnotherHasBoth (order_keyed items order_keys) own s d.decl
            stood s (inl k) = absurd (let e : true ≡ false = sym ((has_decl_is (remove r.decls i) d.decl).1 ((left_is left (record { selector = s; decl = d.decl })).0 k).1) ∙ g in cc)
            stood s (inr k) = another items order_keys told n own own_at s d.decl (beside items n (record { selector = s; decl = d.decl }) k)

    back : Contains (decls (remove r.decls i)) d.decl ⊎ ((s : SelectorParts) → Contains (selectors_of r) s → AnotherHasBoth (order_keyed items order_keys) own s d.decl) → HasStep items (CutDecl n i)
    back h = (
      cut_decl n i r,
      record {
        rule = r;
        rule_at = at;
        part = slice_get_within r.decls i d part;
        no_pair_goes = (goes_is items n (rule_or_none left) (whole_rule n r) r at).1 (λ p w. each p w (other_or (λ f. f.decl) r.decls i d p.decl part w.1));
        is = refl;
      },
    )
      where
        beside_it : (p : Pair) → InRule r p → d.decl ≡ p.decl → Contains (decls (remove r.decls i)) d.decl ⊎ ((s : SelectorParts) → Contains (selectors_of r) s → AnotherHasBoth (order_keyed items order_keys) own s d.decl) →
            HasPair (rule_or_none left) p ⊎ HasPair (remove items n) p
        beside_it p w same (inl g) = inl ((left_is left p).1 (w.0, subst (Contains (decls (remove r.decls i))) same g))
        beside_it p w same (inr g) = inr (subst (λ (f : Decl). HasPair (remove items n) (record { selector = p.selector; decl = f })) same (of_another items order_keys told n own own_at p.selector d.decl (g p.selector w.0)))

        each : (p : Pair) → InRule r p → Contains (decls (remove r.decls i)) p.decl ⊎ (d.decl ≡ p.decl) → HasPair (rule_or_none left) p ⊎ HasPair (remove items n) p
        each p w (inl g) = inl ((left_is left p).1 (w.0, g))
        each p w (inr same) = beside_it p w same h

selector_spare : (items : List Item) (order_keys : List ℕ) (n own i : ℕ) (r : RuleParts) (s : SelItem) → AreTold items order_keys →
    slice_get items n ≡ Some (Rule r) → slice_get order_keys n ≡ Some own → slice_get r.selectors i ≡ Some s → HasStep items (CutSel n i) ↔ SelectorIsSpare (order_keyed items order_keys) own r i s
selector_spare items order_keys n own i r s told at own_at part = (there, back)
  where
    left : RuleParts
    left = record { selectors = remove r.selectors i; decls = r.decls }

    there : HasStep items (CutSel n i) → Contains (sels (remove r.selectors i)) s.selector ⊎ ((d : Decl) → Contains (decls_of r) d → AnotherHasBoth (order_keyed items order_keys) own s.selector d)
    there (e, cut) = by (has_selector (remove r.selectors i) s.selector) refl
      where
        each : (p : Pair) → InRule r p → HasPair (rule_or_none left) p ⊎ HasPair (remove items n) p
        each = (goes_is items n (rule_or_none left) (whole_rule n r) r at).0
            (subst (λ (q : RuleParts). (p : Pair) → HasPair items p → HasPair (edited (cut_selector n i q) items) p) (same_rule items n cut.rule r cut.rule_at at) cut.no_pair_goes)

        by : (b : Bool) → has_selector (remove r.selectors i) s.selector ≡ b →
            Contains (sels (remove r.selectors i)) s.selector ⊎ ((d : Decl) → Contains (decls_of r) d → AnotherHasBoth (order_keyed items order_keys) own s.selector d)
        by true g = inl ((has_selector_is (remove r.selectors i) s.selector).0 g)
        by false g = inr (λ d h. stood d (each (record { selector = s.selector; decl = d }) (has_here (λ t. t.selector) r.selectors i s part, h)))
          where
            stood : (d : Decl) → HasPair (rule_or_none left) (record { selector = s.selector; decl = d }) ⊎ HasPair (remove items n) (record { selector = s.selector; decl = d }) → AnotherHasBoth (order_keyed items order_keys) own s.selector d
            stood d (inl k) = absurd (let e : true ≡ false = sym ((has_selector_is (remove r.selectors i) s.selector).1 ((left_is left (record { selector = s.selector; decl = d })).0 k).0) ∙ g in cc)
            stood d (inr k) = another items order_keys told n own own_at s.selector d (beside items n (record { selector = s.selector; decl = d }) k)

    back : Contains (sels (remove r.selectors i)) s.selector ⊎ ((d : Decl) → Contains (decls_of r) d → AnotherHasBoth (order_keyed items order_keys) own s.selector d) → HasStep items (CutSel n i)
    back h = (
      cut_selector n i r,
      record {
        rule = r;
        rule_at = at;
        part = slice_get_within r.selectors i s part;
        no_pair_goes = (goes_is items n (rule_or_none left) (whole_rule n r) r at).1 (λ p w. each p w (other_or (λ t. t.selector) r.selectors i s p.selector part w.0));
        is = refl;
      },
    )
      where
        beside_it : (p : Pair) → InRule r p → s.selector ≡ p.selector → Contains (sels (remove r.selectors i)) s.selector ⊎ ((d : Decl) → Contains (decls_of r) d → AnotherHasBoth (order_keyed items order_keys) own s.selector d) →
            HasPair (rule_or_none left) p ⊎ HasPair (remove items n) p
        beside_it p w same (inl g) = inl ((left_is left p).1 (subst (Contains (sels (remove r.selectors i))) same g, w.1))
        beside_it p w same (inr g) = inr (subst (λ (t : SelectorParts). HasPair (remove items n) (record { selector = t; decl = p.decl })) same (of_another items order_keys told n own own_at s.selector p.decl (g p.decl w.1)))

        each : (p : Pair) → InRule r p → Contains (sels (remove r.selectors i)) p.selector ⊎ (s.selector ≡ p.selector) → HasPair (rule_or_none left) p ⊎ HasPair (remove items n) p
        each p w (inl g) = inl ((left_is left p).1 (g, w.1))
        each p w (inr same) = beside_it p w same h

-- ---- The part that is cut is there

pub decl_cuts_are_told : DeclCutsAreTold
decl_cuts_are_told items order_keys n own i r told at own_at = (there, back)
  where
    there : HasStep items (CutDecl n i) → CanLoseDecl (order_keyed items order_keys) own r i
    there (e, cut) =
        let w : (d : DeclItem) × (slice_get r.decls i ≡ Some d) = got r.decls i (subst (λ (q : RuleParts). i < length q.decls) (same_rule items n cut.rule r cut.rule_at at) cut.part) in
        (w.0, w.1, (decl_spare items order_keys n own i r w.0 told at own_at w.1).0 (e, cut))

    back : CanLoseDecl (order_keyed items order_keys) own r i → HasStep items (CutDecl n i)
    back (d, part, spare) = (decl_spare items order_keys n own i r d told at own_at part).1 spare

pub selector_cuts_are_told : SelectorCutsAreTold
selector_cuts_are_told items order_keys n own i r told at own_at = (there, back)
  where
    there : HasStep items (CutSel n i) → CanLoseSelector (order_keyed items order_keys) own r i
    there (e, cut) =
        let w : (s : SelItem) × (slice_get r.selectors i ≡ Some s) = got r.selectors i (subst (λ (q : RuleParts). i < length q.selectors) (same_rule items n cut.rule r cut.rule_at at) cut.part) in
        (w.0, w.1, (selector_spare items order_keys n own i r w.0 told at own_at w.1).0 (e, cut))

    back : CanLoseSelector (order_keyed items order_keys) own r i → HasStep items (CutSel n i)
    back (s, part, spare) = (selector_spare items order_keys n own i r s told at own_at part).1 spare
