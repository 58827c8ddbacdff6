-- When the pairs of a part of a rule all stand beside it too.
use Rattle.std.proofs.Common.{◌≡◌, ◌↔◌, ◌⊎◌, ℕ, zero, suc, ◌+◌, ◌<◌, Bool, true, false, ◌||◌, List, [], ◌∷◌, ◌++◌, map, length, take, drop, Some, None, refl, sym, ap, ap₂, subst, inl, inr, ◌∙◌, arith}
use Rattle.std.specs.Prelude.{get_or, slice_get}
use Rattle.std.specs.List.{Contains, list_all, list_any, remove}
use Rattle.std.proofs.lemmas.Bool.{false≢true, or_cases, or_left, or_right}
use Rattle.cascade_laws.proofs.ForCallers.{some-same}
use Rattle.list_facts.proofs.Members.{Contains-here, Contains-there, Contains-nil, Contains-cons_cases}
use Rattle.css_model.specs.declared.sheet.Decl.{Decl}
use Rattle.css_model.specs.declared.sheet.DeclItem.{DeclItem}
use Rattle.css_model.specs.declared.sheet.Item.{Item}
use Rattle.css_model.specs.declared.sheet.Item.TheVariants.{Rule, KeptRule, KeptBlock}
use Rattle.css_model.specs.declared.sheet.SelItem.{SelItem}
use Rattle.css_model.specs.Cascade.Order.{Pair, HasPair}
use Rattle.css_model.specs.Documents.SelectorParts.{SelectorParts}
use Rattle.css_model.specs.Sheets.RuleParts.{RuleParts}
use Rattle.merge_steps.proofs.Among.{first_true, second_true, together, all_from_map, all_of_map}
use Rattle.merge_steps.specs.Standing.{is_in_item, stands, stands_beside, is_decl_again, is_selector_again, is_decl_elsewhere, is_selector_elsewhere}
use Rattle.order_laws.proofs.ForCallers.{has_append, has_rule, InRule, decls, sels, has_decl_is, has_selector_is, instead_here, instead_there, unchanged}
use Rattle.order_laws.specs.Edits.{Change, Moved, slots_from, edited, whole_rule}
use Rattle.order_laws.specs.Members.{has_selector, has_decl}
use Rattle.order_laws.specs.Slots.{new_items}
use Rattle.step_laws.specs.declared.step.Step.TheVariants.{CutDecl, CutSel}
use Rattle.step_laws.specs.RuleParting.{item_if_any, rule_or_none}
use Rattle.step_laws.specs.StepEdits.{one_change, cut_decl, cut_selector}
use Rattle.step_laws.specs.Steps.{HasStep}

-- ---- Where pairs stand

-- a kept item has none
none_kept : (x : Item) (p : Pair) → ((r : RuleParts) → x ≡ Rule r → ⊥) → HasPair (x ∷ []) p → ⊥
none_kept x p kept h = at h.0.item h.1.rule h.1.rule_at
  where
    at : (n : ℕ) (r : RuleParts) → slice_get (x ∷ []) n ≡ Some (Rule r) → ⊥
    at zero r e = kept r (some-same e)
    at (suc n) r e = let f : None ≡ Some (Rule r) = e in cc

in_item_is : (x : Item) (p : Pair) → (is_in_item p x ≡ true) ↔ HasPair (x ∷ []) p
in_item_is (Rule r) p = (
  λ h. (has_rule r p).1 ((has_selector_is r.selectors p.selector).0 (first_true (has_selector r.selectors p.selector) (has_decl r.decls p.decl) h), (has_decl_is r.decls p.decl).0 (second_true (has_selector r.selectors p.selector) (has_decl r.decls p.decl) h)),
  λ h. let w : InRule r p = (has_rule r p).0 h in
      together (has_selector r.selectors p.selector) (has_decl r.decls p.decl) ((has_selector_is r.selectors p.selector).1 w.0) ((has_decl_is r.decls p.decl).1 w.1),
)
in_item_is (KeptRule k) p = (λ h. absurd (false≢true h), λ h. absurd (none_kept (KeptRule k) p (λ r e. cc) h))
in_item_is (KeptBlock b) p = (λ h. absurd (false≢true h), λ h. absurd (none_kept (KeptBlock b) p (λ r e. cc) h))

none_stands : (p : Pair) → HasPair [] p → ⊥
none_stands p h = let e : None ≡ Some (Rule h.1.rule) = h.1.rule_at in cc

stands_is : (items : List Item) (p : Pair) → (stands items p ≡ true) ↔ HasPair items p
stands_is [] p = (λ h. absurd (false≢true h), λ h. absurd (none_stands p h))
stands_is (x ∷ items) p = (there (stands_is items p), back (stands_is items p))
  where
    there : (stands items p ≡ true) ↔ HasPair items p → stands (x ∷ items) p ≡ true → HasPair (x ∷ items) p
    there ih h = (has_append (x ∷ []) items p).1 (which (or_cases (is_in_item p x) (stands items p) h))
      where
        which : (is_in_item p x ≡ true) ⊎ (stands items p ≡ true) → HasPair (x ∷ []) p ⊎ HasPair items p
        which (inl e) = inl ((in_item_is x p).0 e)
        which (inr e) = inr (ih.0 e)

    back : (stands items p ≡ true) ↔ HasPair items p → HasPair (x ∷ items) p → stands (x ∷ items) p ≡ true
    back ih h = which ((has_append (x ∷ []) items p).0 h)
      where
        which : HasPair (x ∷ []) p ⊎ HasPair items p → stands (x ∷ items) p ≡ true
        which (inl g) = or_left (is_in_item p x) (stands items p) ((in_item_is x p).1 g)
        which (inr g) = or_right (is_in_item p x) (stands items p) (ih.1 g)

-- ---- One change, between what stands above and below

abbrev change : ℕ → List Item → Change
change n by = record { at = n; by = by }

split_at : (items : List Item) (n : ℕ) (x : Item) → slice_get items n ≡ Some x → items ≡ take n items ++ (x ∷ drop (n + 1) items)
split_at [] n x at = absurd (let e : None ≡ Some x = at in cc)
split_at (y ∷ items) zero x at = ap (λ (z : Item). z ∷ items) (some-same at)
split_at (y ∷ items) (suc n) x at =
    let e : suc n + 1 ≡ suc (n + 1) = omega arith in
    ap (λ (xs : List Item). y ∷ xs) (split_at items n x at) ∙ ap (λ (m : ℕ). y ∷ (take n items ++ (x ∷ drop m (y ∷ items)))) (sym e)

edited_from : (n i : ℕ) (by items : List Item) (x : Item) → slice_get items i ≡ Some x →
    new_items (slots_from n (change (n + i) by ∷ []) items) ≡ take i items ++ (by ++ drop (i + 1) items)
edited_from n i by [] x at = absurd (let e : None ≡ Some x = at in cc)
edited_from n zero by (y ∷ items) x at =
    ap₂ (λ (xs ys : List Item). xs ++ ys) (instead_here (change (n + 0) by) [] n y (omega arith))
    (unchanged (change (n + 0) by ∷ []) (n + 1) items (λ k z later. instead_there (change (n + 0) by) [] k z (λ e. let f : n + 0 ≡ k = e in omega (arith, f, later))))
edited_from n (suc i) by (y ∷ items) x at =
    let e : (n + 1) + i ≡ n + suc i = omega arith in
    let g : suc i + 1 ≡ suc (i + 1) = omega arith in
    let ih : new_items (slots_from (n + 1) (change (n + suc i) by ∷ []) items) ≡ take i items ++ (by ++ drop (i + 1) items) =
    subst (λ (m : ℕ). new_items (slots_from (n + 1) (change m by ∷ []) items) ≡ take i items ++ (by ++ drop (i + 1) items)) e (edited_from (n + 1) i by items x at) in
    ap₂ (λ (xs ys : List Item). xs ++ ys) (instead_there (change (n + suc i) by) [] n y (λ e. let f : n + suc i ≡ n = e in omega (arith, f))) ih
    ∙ ap (λ (m : ℕ). y ∷ (take i items ++ (by ++ drop m (y ∷ items)))) (sym g)

edited_at : (items : List Item) (n : ℕ) (by : List Item) (m : Moved) (x : Item) → slice_get items n ≡ Some x →
    edited (one_change n by m) items ≡ take n items ++ (by ++ drop (n + 1) items)
edited_at items n by m x at =
    let e : 0 + n ≡ n = omega arith in
    subst (λ (i : ℕ). new_items (slots_from 0 (change i by ∷ []) items) ≡ take n items ++ (by ++ drop (n + 1) items)) e (edited_from 0 n by items x at)

-- no pair goes by a change of a rule: each of its pairs stands in what comes in its place, above or below
goes_is : (items : List Item) (n : ℕ) (by : List Item) (m : Moved) (r : RuleParts) → slice_get items n ≡ Some (Rule r) →
    ((p : Pair) → HasPair items p → HasPair (edited (one_change n by m) items) p)
    ↔ ((p : Pair) → InRule r p → HasPair by p ⊎ (stands_beside (take n items) (drop (n + 1) items) p ≡ true))
goes_is items n by m r at = (there, back)
  where
    above : List Item
    above = take n items

    there : ((p : Pair) → HasPair items p → HasPair (edited (one_change n by m) items) p) → (p : Pair) → InRule r p → HasPair by p ⊎ (stands_beside (take n items) (drop (n + 1) items) p ≡ true)
    there goes p in_rule = first ((has_append (take n items) (by ++ drop (n + 1) items) p).0 new)
      where
        old : HasPair items p
        old = subst (λ (xs : List Item). HasPair xs p) (sym (split_at items n (Rule r) at))
            ((has_append (take n items) (Rule r ∷ drop (n + 1) items) p).1 (inr ((has_append (Rule r ∷ []) (drop (n + 1) items) p).1 (inl ((has_rule r p).1 in_rule)))))

        new : HasPair (take n items ++ (by ++ drop (n + 1) items)) p
        new = subst (λ (xs : List Item). HasPair xs p) (edited_at items n by m (Rule r) at) (goes p old)

        second : HasPair by p ⊎ HasPair (drop (n + 1) items) p → HasPair by p ⊎ (stands_beside (take n items) (drop (n + 1) items) p ≡ true)
        second (inl h) = inl h
        second (inr h) = inr (or_right (stands (take n items) p) (stands (drop (n + 1) items) p) ((stands_is (drop (n + 1) items) p).1 h))

        first : HasPair (take n items) p ⊎ HasPair (by ++ drop (n + 1) items) p → HasPair by p ⊎ (stands_beside (take n items) (drop (n + 1) items) p ≡ true)
        first (inl h) = inr (or_left (stands (take n items) p) (stands (drop (n + 1) items) p) ((stands_is (take n items) p).1 h))
        first (inr h) = second ((has_append by (drop (n + 1) items) p).0 h)

    back : ((p : Pair) → InRule r p → HasPair by p ⊎ (stands_beside (take n items) (drop (n + 1) items) p ≡ true)) → (p : Pair) → HasPair items p → HasPair (edited (one_change n by m) items) p
    back each p h = subst (λ (xs : List Item). HasPair xs p) (sym (edited_at items n by m (Rule r) at)) (first ((has_append (take n items) (Rule r ∷ drop (n + 1) items) p).0 (subst (λ (xs : List Item). HasPair xs p) (split_at items n (Rule r) at) h)))
      where
        in_above : HasPair (take n items) p → HasPair (take n items ++ (by ++ drop (n + 1) items)) p
        in_above g = (has_append (take n items) (by ++ drop (n + 1) items) p).1 (inl g)

        in_below : HasPair (drop (n + 1) items) p → HasPair (take n items ++ (by ++ drop (n + 1) items)) p
        in_below g = (has_append (take n items) (by ++ drop (n + 1) items) p).1 (inr ((has_append by (drop (n + 1) items) p).1 (inr g)))

        beside : (stands (take n items) p ≡ true) ⊎ (stands (drop (n + 1) items) p ≡ true) → HasPair (take n items ++ (by ++ drop (n + 1) items)) p
        beside (inl e) = in_above ((stands_is (take n items) p).0 e)
        beside (inr e) = in_below ((stands_is (drop (n + 1) items) p).0 e)

        here : HasPair by p ⊎ (stands_beside (take n items) (drop (n + 1) items) p ≡ true) → HasPair (take n items ++ (by ++ drop (n + 1) items)) p
        here (inl g) = (has_append (take n items) (by ++ drop (n + 1) items) p).1 (inr ((has_append by (drop (n + 1) items) p).1 (inl g)))
        here (inr e) = beside (or_cases (stands (take n items) p) (stands (drop (n + 1) items) p) e)

        second : HasPair (Rule r ∷ []) p ⊎ HasPair (drop (n + 1) items) p → HasPair (take n items ++ (by ++ drop (n + 1) items)) p
        second (inl g) = here (each p ((has_rule r p).0 g))
        second (inr g) = in_below g

        first : HasPair (take n items) p ⊎ HasPair (Rule r ∷ drop (n + 1) items) p → HasPair (take n items ++ (by ++ drop (n + 1) items)) p
        first (inl g) = in_above g
        first (inr g) = second ((has_append (Rule r ∷ []) (drop (n + 1) items) p).0 g)

-- ---- What is left of a rule

left_is : (q : RuleParts) (p : Pair) → HasPair (rule_or_none q) p ↔ InRule q p
left_is q p = by q.selectors q.decls refl refl
  where
    by : (ss : List SelItem) (ds : List DeclItem) → q.selectors ≡ ss → q.decls ≡ ds → HasPair (item_if_any ss ds q) p ↔ InRule q p
    by [] ds e f = (λ h. absurd (none_stands p h), λ h. absurd (Contains-nil p.selector (subst (λ (xs : List SelItem). Contains (sels xs) p.selector) e h.0)))
    by (s ∷ ss) [] e f = (λ h. absurd (none_stands p h), λ h. absurd (Contains-nil p.decl (subst (λ (xs : List DeclItem). Contains (decls xs) p.decl) f h.1)))
    by (s ∷ ss) (d ∷ ds) e f = has_rule q p

-- ---- A part of a list, and the others

-- what a test finds before or behind an element it finds among the others
pub again_is : {X : Type 0} (f : X → Bool) (xs : List X) (i : ℕ) → i < length xs → (list_any f (take i xs) || list_any f (drop (i + 1) xs)) ≡ list_any f (remove xs i)
again_is f [] i less = absurd (omega (arith, less))
again_is f (x ∷ xs) zero less = refl
again_is f (x ∷ xs) (suc i) less =
    let g : suc i + 1 ≡ suc (i + 1) = omega arith in
    let h : i < length xs = omega (arith, less) in
    ap (λ (m : ℕ). (f x || list_any f (take i xs)) || list_any f (drop m (x ∷ xs))) g
    ∙ by (f x) (again_is f xs i h)
  where
    by : (b : Bool) → (list_any f (take i xs) || list_any f (drop (i + 1) xs)) ≡ list_any f (remove xs i) → ((b || list_any f (take i xs)) || list_any f (drop (i + 1) xs)) ≡ (b || list_any f (remove xs i))
    by true ih = refl
    by false ih = ih

-- each element is the one of this number or among the others
other_or : {X Y : Type 0} (g : X → Y) (xs : List X) (i : ℕ) (x : X) (y : Y) → slice_get xs i ≡ Some x → Contains (map g xs) y → Contains (map g (remove xs i)) y ⊎ (g x ≡ y)
other_or g [] i x y at = λ h. absurd (Contains-nil y h)
other_or g (z ∷ xs) zero x y at = λ h. which (Contains-cons_cases (g z) (map g xs) y h)
  where
    which : (g z ≡ y) ⊎ Contains (map g xs) y → Contains (map g xs) y ⊎ (g x ≡ y)
    which (inl e) = inr (ap g (sym (some-same at)) ∙ e)
    which (inr h) = inl h
other_or g (z ∷ xs) (suc i) x y at = λ h. which (other_or g xs i x y at) (Contains-cons_cases (g z) (map g xs) y h)
  where
    which : (Contains (map g xs) y → Contains (map g (remove xs i)) y ⊎ (g x ≡ y)) → (g z ≡ y) ⊎ Contains (map g xs) y → Contains (map g (z ∷ remove xs i)) y ⊎ (g x ≡ y)
    which ih (inl e) = inl (subst (Contains (map g (z ∷ remove xs i))) e (Contains-here (g z) (map g (remove xs i))))
    which ih (inr h) = deeper (ih h)
      where
        deeper : Contains (map g (remove xs i)) y ⊎ (g x ≡ y) → Contains (map g (z ∷ remove xs i)) y ⊎ (g x ≡ y)
        deeper (inl k) = inl (Contains-there (g z) (map g (remove xs i)) y k)
        deeper (inr e) = inr e

has_here : {X Y : Type 0} (g : X → Y) (xs : List X) (i : ℕ) (x : X) → slice_get xs i ≡ Some x → Contains (map g xs) (g x)
has_here g [] i x at = absurd (let e : None ≡ Some x = at in cc)
has_here g (z ∷ xs) zero x at = subst (Contains (map g (z ∷ xs))) (ap g (some-same at)) (Contains-here (g z) (map g xs))
has_here g (z ∷ xs) (suc i) x at = Contains-there (g z) (map g xs) (g x) (has_here g xs i x at)

pub number_of : {X : Type 0} (xs : List X) (i : ℕ) (x : X) → slice_get xs i ≡ Some x → i < length xs
number_of [] i x at = absurd (let e : None ≡ Some x = at in cc)
number_of (y ∷ xs) zero x at = omega arith
number_of (y ∷ xs) (suc i) x at = let ih = number_of xs i x at in omega (arith, ih)

pub got : {X : Type 0} (xs : List X) (i : ℕ) (x : X) → i < length xs → ((d : X) → x ≡ get_or xs i d) → slice_get xs i ≡ Some x
got [] i x less is = absurd (omega (arith, less))
got (y ∷ xs) zero x less is = ap Some (sym (is y))
got (y ∷ xs) (suc i) x less is = got xs i x (omega (arith, less)) is

pub get_none : {X : Type 0} (xs : List X) (i : ℕ) → slice_get xs i ≡ None → i < length xs → ⊥
get_none [] i at less = omega (arith, less)
get_none (y ∷ xs) zero at less = let e : Some y ≡ None = at in cc
get_none (y ∷ xs) (suc i) at less = get_none xs i at (omega (arith, less))

pub same_rule : (items : List Item) (n : ℕ) (r q : RuleParts) → slice_get items n ≡ Some (Rule r) → slice_get items n ≡ Some (Rule q) → r ≡ q
same_rule items n r q a b = cc

-- ---- Cuts of declarations

pub decl_cut_decided : (items : List Item) (n i : ℕ) (r : RuleParts) (d : DeclItem) → slice_get items n ≡ Some (Rule r) → slice_get r.decls i ≡ Some d →
    (is_decl_elsewhere items n r i d.decl ≡ true) ↔ HasStep items (CutDecl n i)
decl_cut_decided items n i r d at part = (there, back)
  where
    less : i < length r.decls
    less = number_of r.decls i d part

    left : RuleParts
    left = record { selectors = r.selectors; decls = remove r.decls i }

    again : (is_decl_again r.decls i d.decl ≡ true) → Contains (decls (remove r.decls i)) d.decl
    again h = (has_decl_is (remove r.decls i) d.decl).0 (sym (again_is _ r.decls i less) ∙ h)

    there : is_decl_elsewhere items n r i d.decl ≡ true → HasStep items (CutDecl n i)
    there h = (
      cut_decl n i r,
      record {
        rule = r;
        rule_at = at;
        part = less;
        no_pair_goes = (goes_is items n (rule_or_none left) (whole_rule n r) r at).1 each;
        is = refl;
      },
    )
      where
        beside : (p : Pair) → InRule r p → d.decl ≡ p.decl → (is_decl_again r.decls i d.decl ≡ true) ⊎ (list_all (λ s. stands_beside (take n items) (drop (n + 1) items) (record { selector = s.selector; decl = d.decl })) r.selectors ≡ true) →
            HasPair (rule_or_none left) p ⊎ (stands_beside (take n items) (drop (n + 1) items) p ≡ true)
        beside p w same (inl e) = inl ((left_is left p).1 (w.0, subst (Contains (decls (remove r.decls i))) same (again e)))
        beside p w same (inr e) = inr (subst (λ (f : Decl). stands_beside (take n items) (drop (n + 1) items) (record { selector = p.selector; decl = f }) ≡ true) same
            (all_from_map (λ s. s.selector) (λ s. stands_beside (take n items) (drop (n + 1) items) (record { selector = s; decl = d.decl })) r.selectors e p.selector w.0))

        each : (p : Pair) → InRule r p → HasPair (rule_or_none left) p ⊎ (stands_beside (take n items) (drop (n + 1) items) p ≡ true)
        each p w = which (other_or (λ f. f.decl) r.decls i d p.decl part w.1)
          where
            which : Contains (decls (remove r.decls i)) p.decl ⊎ (d.decl ≡ p.decl) → HasPair (rule_or_none left) p ⊎ (stands_beside (take n items) (drop (n + 1) items) p ≡ true)
            which (inl g) = inl ((left_is left p).1 (w.0, g))
            which (inr same) = beside p w same (or_cases (is_decl_again r.decls i d.decl) (list_all (λ s. stands_beside (take n items) (drop (n + 1) items) (record { selector = s.selector; decl = d.decl })) r.selectors) h)

    back : HasStep items (CutDecl n i) → is_decl_elsewhere items n r i d.decl ≡ true
    back (e, cut) = which (is_decl_again r.decls i d.decl) refl
      where
        each : (p : Pair) → InRule r p → HasPair (rule_or_none left) p ⊎ (stands_beside (take n items) (drop (n + 1) items) p ≡ true)
        each = (goes_is items n (rule_or_none left) (whole_rule n r) r at).0
            (subst (λ (q : RuleParts). (p : Pair) → HasPair items p → HasPair (edited (cut_decl n i q) items) p) (same_rule items n cut.rule r cut.rule_at at) cut.no_pair_goes)

        which : (b : Bool) → is_decl_again r.decls i d.decl ≡ b → is_decl_elsewhere items n r i d.decl ≡ true
        which true g = or_left (is_decl_again r.decls i d.decl) _ g
        which false g = or_right (is_decl_again r.decls i d.decl) _
            (all_of_map (λ s. s.selector) (λ s. stands_beside (take n items) (drop (n + 1) items) (record { selector = s; decl = d.decl })) r.selectors (λ s c. stood s (each (record { selector = s; decl = d.decl }) (c, has_here (λ f. f.decl) r.decls i d part))))
          where
            stood : (s : SelectorParts) → HasPair (rule_or_none left) (record { selector = s; decl = d.decl }) ⊎ (stands_beside (take n items) (drop (n + 1) items) (record { selector = s; decl = d.decl }) ≡ true) →
                stands_beside (take n items) (drop (n + 1) items) (record { selector = s; decl = d.decl }) ≡ true
            stood s (inl k) = absurd (false≢true (sym g ∙ again_is _ r.decls i less ∙ (has_decl_is (remove r.decls i) d.decl).1 ((left_is left (record { selector = s; decl = d.decl })).0 k).1))
            stood s (inr k) = k

pub no_decl_to_cut : (items : List Item) (n i : ℕ) (r : RuleParts) → slice_get items n ≡ Some (Rule r) → slice_get r.decls i ≡ None → HasStep items (CutDecl n i) → ⊥
no_decl_to_cut items n i r at none (e, cut) = get_none r.decls i none (subst (λ (q : RuleParts). i < length q.decls) (same_rule items n cut.rule r cut.rule_at at) cut.part)

-- ---- Cuts of selectors

pub selector_cut_decided : (items : List Item) (n i : ℕ) (r : RuleParts) (s : SelItem) → slice_get items n ≡ Some (Rule r) → slice_get r.selectors i ≡ Some s →
    (is_selector_elsewhere items n r i s.selector ≡ true) ↔ HasStep items (CutSel n i)
selector_cut_decided items n i r s at part = (there, back)
  where
    less : i < length r.selectors
    less = number_of r.selectors i s part

    left : RuleParts
    left = record { selectors = remove r.selectors i; decls = r.decls }

    again : (is_selector_again r.selectors i s.selector ≡ true) → Contains (sels (remove r.selectors i)) s.selector
    again h = (has_selector_is (remove r.selectors i) s.selector).0 (sym (again_is _ r.selectors i less) ∙ h)

    there : is_selector_elsewhere items n r i s.selector ≡ true → HasStep items (CutSel n i)
    there h = (
      cut_selector n i r,
      record {
        rule = r;
        rule_at = at;
        part = less;
        no_pair_goes = (goes_is items n (rule_or_none left) (whole_rule n r) r at).1 each;
        is = refl;
      },
    )
      where
        beside : (p : Pair) → InRule r p → s.selector ≡ p.selector → (is_selector_again r.selectors i s.selector ≡ true) ⊎ (list_all (λ d. stands_beside (take n items) (drop (n + 1) items) (record { selector = s.selector; decl = d.decl })) r.decls ≡ true) →
            HasPair (rule_or_none left) p ⊎ (stands_beside (take n items) (drop (n + 1) items) p ≡ true)
        beside p w same (inl e) = inl ((left_is left p).1 (subst (Contains (sels (remove r.selectors i))) same (again e), w.1))
        beside p w same (inr e) = inr (subst (λ (t : SelectorParts). stands_beside (take n items) (drop (n + 1) items) (record { selector = t; decl = p.decl }) ≡ true) same
            (all_from_map (λ d. d.decl) (λ d. stands_beside (take n items) (drop (n + 1) items) (record { selector = s.selector; decl = d })) r.decls e p.decl w.1))

        each : (p : Pair) → InRule r p → HasPair (rule_or_none left) p ⊎ (stands_beside (take n items) (drop (n + 1) items) p ≡ true)
        each p w = which (other_or (λ t. t.selector) r.selectors i s p.selector part w.0)
          where
            which : Contains (sels (remove r.selectors i)) p.selector ⊎ (s.selector ≡ p.selector) → HasPair (rule_or_none left) p ⊎ (stands_beside (take n items) (drop (n + 1) items) p ≡ true)
            which (inl g) = inl ((left_is left p).1 (g, w.1))
            which (inr same) = beside p w same (or_cases (is_selector_again r.selectors i s.selector) (list_all (λ d. stands_beside (take n items) (drop (n + 1) items) (record { selector = s.selector; decl = d.decl })) r.decls) h)

    back : HasStep items (CutSel n i) → is_selector_elsewhere items n r i s.selector ≡ true
    back (e, cut) = which (is_selector_again r.selectors i s.selector) refl
      where
        each : (p : Pair) → InRule r p → HasPair (rule_or_none left) p ⊎ (stands_beside (take n items) (drop (n + 1) items) p ≡ true)
        each = (goes_is items n (rule_or_none left) (whole_rule n r) r at).0
            (subst (λ (q : RuleParts). (p : Pair) → HasPair items p → HasPair (edited (cut_selector n i q) items) p) (same_rule items n cut.rule r cut.rule_at at) cut.no_pair_goes)

        which : (b : Bool) → is_selector_again r.selectors i s.selector ≡ b → is_selector_elsewhere items n r i s.selector ≡ true
        which true g = or_left (is_selector_again r.selectors i s.selector) _ g
        which false g = or_right (is_selector_again r.selectors i s.selector) _
            (all_of_map (λ d. d.decl) (λ d. stands_beside (take n items) (drop (n + 1) items) (record { selector = s.selector; decl = d })) r.decls (λ d c. stood d (each (record { selector = s.selector; decl = d }) (has_here (λ t. t.selector) r.selectors i s part, c))))
          where
            stood : (d : Decl) → HasPair (rule_or_none left) (record { selector = s.selector; decl = d }) ⊎ (stands_beside (take n items) (drop (n + 1) items) (record { selector = s.selector; decl = d }) ≡ true) →
                stands_beside (take n items) (drop (n + 1) items) (record { selector = s.selector; decl = d }) ≡ true
            stood d (inl k) = absurd (false≢true (sym g ∙ again_is _ r.selectors i less ∙ (has_selector_is (remove r.selectors i) s.selector).1 ((left_is left (record { selector = s.selector; decl = d })).0 k).0))
            stood d (inr k) = k

pub no_selector_to_cut : (items : List Item) (n i : ℕ) (r : RuleParts) → slice_get items n ≡ Some (Rule r) → slice_get r.selectors i ≡ None → HasStep items (CutSel n i) → ⊥
no_selector_to_cut items n i r at none (e, cut) = get_none r.selectors i none (subst (λ (q : RuleParts). i < length q.selectors) (same_rule items n cut.rule r cut.rule_at at) cut.part)

pub rule_number : (items : List Item) (n : ℕ) (r : RuleParts) → slice_get items n ≡ Some (Rule r) → n < length items
rule_number items n r at = number_of items n (Rule r) at

-- ---- By the answer of a test

pub decl_cut_answered : (items : List Item) (n i : ℕ) (r : RuleParts) (d : DeclItem) → slice_get items n ≡ Some (Rule r) → slice_get r.decls i ≡ Some d →
    (b : Bool) → b ≡ is_decl_elsewhere items n r i d.decl → (b ≡ true) ↔ HasStep items (CutDecl n i)
decl_cut_answered items n i r d at part b e = subst (λ (a : Bool). (a ≡ true) ↔ HasStep items (CutDecl n i)) (sym e) (decl_cut_decided items n i r d at part)

pub selector_cut_answered : (items : List Item) (n i : ℕ) (r : RuleParts) (s : SelItem) → slice_get items n ≡ Some (Rule r) → slice_get r.selectors i ≡ Some s →
    (b : Bool) → b ≡ is_selector_elsewhere items n r i s.selector → (b ≡ true) ↔ HasStep items (CutSel n i)
selector_cut_answered items n i r s at part b e = subst (λ (a : Bool). (a ≡ true) ↔ HasStep items (CutSel n i)) (sym e) (selector_cut_decided items n i r s at part)
