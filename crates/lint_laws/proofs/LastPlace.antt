-- The last place of a pair of a sheet, and whether a declaration is repeated.
use Rattle.std.proofs.Common.{◌≡◌, ◌≢◌, ◌⊎◌, ℕ, zero, suc, ◌<◌, ◌≤◌, ◌==◌, true, false, not, List, [], ◌∷◌, Option, Some, None, refl, sym, ap, ap₂, ◌∙◌, subst, inl, inr, arith, eq-eqb}
use Rattle.std.specs.Prelude.{slice_get}
use Rattle.std.specs.List.{Contains}
use Rattle.std.proofs.lemmas.Bool.{false≢true, and_from, and_parts, cases_order, eqb-true, false_from_ne_true, not-true, not_from_false, not_from_true}
use Rattle.cascade_laws.proofs.ForCallers.{some-same}
use Rattle.list_facts.proofs.Members.{Contains-nil, Contains-cons_cases}
use Rattle.css_model.proofs.ForCallers.{decl_decides, selector_decides}
use Rattle.css_model.specs.declared.sheet.Decl.{Decl}
use Rattle.css_model.specs.declared.sheet.Item.{Item}
use Rattle.css_model.specs.declared.sheet.SelItem.{SelItem}
use Rattle.css_model.specs.Cascade.Order.{Pair, IsLast, IsPairAt}
use Rattle.css_model.specs.Cascade.Winner.{IsLater, Place}
use Rattle.css_model.specs.Documents.SelectorParts.{SelectorParts}
use Rattle.css_model.specs.Sheets.RuleParts.{RuleParts}
use Rattle.css_model.specs.Sheets.StyleRule.{selectors_of}
use Rattle.order_laws.specs.Members.{same_decl, same_pair, same_selector}
use Rattle.order_laws.specs.Places.{ListedStandsLast, PairPlace, PlacedPair, StandsLast, last_pairs, place_of}
use Rattle.order_laws.proofs.ForCallers.{last_of, map_from, map_has, same_selector_or_not}
use Rattle.lint_laws.specs.Repeats.{ComesLater, RepeatingIsDecided, is_here, is_repeated, last_in, pair_of}
use Rattle.lint_laws.proofs.Finding.{all_at, all_from, all_not, finds, found_in, member}

-- ---- Pairs that are the same

same_itself : (p : Pair) → same_pair p p ≡ true
same_itself p = and_from (same_selector p.selector p.selector) (same_decl p.decl p.decl) ((selector_decides p.selector p.selector).1 refl) ((decl_decides p.decl p.decl).1 refl)

same_is : (p q : Pair) → same_pair p q ≡ true → p ≡ q
same_is p q h =
    let both = and_parts (same_selector p.selector q.selector) (same_decl p.decl q.decl) h in
    ap₂ (λ (s : SelectorParts) (d : Decl). pair_of s d) ((selector_decides p.selector q.selector).0 both.0) ((decl_decides p.decl q.decl).0 both.1)

-- ---- Places

-- a place that is not earlier, and is another one, is later
pub later_elsewhere : (p q : Place) → (IsLater q p → ⊥) → (p.item ≡ q.item → p.position ≡ q.position → ⊥) → IsLater p q
later_elsewhere p q not_later other = item (cases_order p.item q.item)
  where
    position : p.item ≡ q.item → (p.position ≡ q.position) ⊎ ((p.position < q.position) ⊎ (q.position < p.position)) → IsLater p q
    position e (inl same) = absurd (other e same)
    position e (inr (inl less)) = absurd (not_later (inr (sym e, less)))
    position e (inr (inr more)) = inr (e, more)

    item : (p.item ≡ q.item) ⊎ ((p.item < q.item) ⊎ (q.item < p.item)) → IsLater p q
    item (inl e) = position e (cases_order p.position q.position)
    item (inr (inl less)) = absurd (not_later (inl less))
    item (inr (inr more)) = inl more

-- what is found where it is looked for has these numbers
pub here_is : (item decl : ℕ) (x : PlacedPair) → is_here item decl (Some x) ≡ true → (x.place.item ≡ item) × (x.place.decl ≡ decl)
here_is item decl x h = let both = and_parts (x.place.item == item) (x.place.decl == decl) h in (eqb-true x.place.item item both.0, eqb-true x.place.decl decl both.1)

pub is_there : (item decl : ℕ) (x : PlacedPair) → x.place.item ≡ item → x.place.decl ≡ decl → is_here item decl (Some x) ≡ true
is_there item decl x i d = and_from (x.place.item == item) (x.place.decl == decl) (eq-eqb x.place.item item i) (eq-eqb x.place.decl decl d)

-- ---- The last place of a pair

-- the first place of a selector in a list
first_at : (ss : List SelectorParts) (s : SelectorParts) → Contains ss s → (i : ℕ) × (slice_get ss i ≡ Some s) × ((j : ℕ) → slice_get ss j ≡ Some s → i ≤ j)
first_at [] s h = absurd (Contains-nil s h)
first_at (t ∷ ss) s h = which (same_selector_or_not t s) (Contains-cons_cases t ss s h) (λ g. first_at ss s g)
  where
    later : t ≢ s → (w : (i : ℕ) × (slice_get ss i ≡ Some s) × ((j : ℕ) → slice_get ss j ≡ Some s → i ≤ j)) (j : ℕ) → slice_get (t ∷ ss) j ≡ Some s → suc w.0 ≤ j
    later apart w zero at = absurd (apart (some-same at))
    later apart w (suc j) at = let h : w.0 ≤ j = w.2 j at in omega arith

    which : (t ≡ s) ⊎ (t ≢ s) → (t ≡ s) ⊎ Contains ss s → (Contains ss s → (i : ℕ) × (slice_get ss i ≡ Some s) × ((j : ℕ) → slice_get ss j ≡ Some s → i ≤ j)) →
        (i : ℕ) × (slice_get (t ∷ ss) i ≡ Some s) × ((j : ℕ) → slice_get (t ∷ ss) j ≡ Some s → i ≤ j)
    which (inl e) other rest = (0, ap Some e, λ j at. omega arith)
    which (inr apart) (inl e) rest = absurd (apart e)
    which (inr apart) (inr g) rest = let w = rest g in (suc w.0, w.1, later apart w)

-- what is found for a pair is the pair at its last place
pub last_sound : ListedStandsLast → (items : List Item) (p : Pair) (x : PlacedPair) → last_in (last_pairs items) p ≡ Some x → (x.pair ≡ p) × StandsLast (λ n. true) items x
last_sound law items p x e =
    let w : Contains (last_pairs items) x × (same_pair x.pair p ≡ true) = found_in (λ (q : PlacedPair). same_pair q.pair p) (last_pairs items) x e in
    (same_is x.pair p w.1, (law (λ n. true) items x).0 w.0)

-- a pair that is somewhere is found
pub last_found : ListedStandsLast → (items : List Item) (p : Pair) (place : Place) → IsPairAt items p place →
    (x : PlacedPair) × (last_in (last_pairs items) p ≡ Some x) × (x.pair ≡ p) × StandsLast (λ n. true) items x
last_found law items p place h =
    let w : (y : PlacedPair) × (last_in (last_pairs items) p ≡ Some y) = finds (λ (q : PlacedPair). same_pair q.pair p) (last_pairs items) (record { pair = p; place = there.0 }) there.1 (same_itself p) in
    let s : (w.0.pair ≡ p) × StandsLast (λ n. true) items w.0 = last_sound law items p w.0 w.1 in
    (w.0, w.1, s.0, s.1)
  where
    last : (q : Place) × IsLast items p q
    last = last_of items p (place, h)

    first : (i : ℕ) × (slice_get (selectors_of last.1.stands.rule) i ≡ Some p.selector) × ((j : ℕ) → slice_get (selectors_of last.1.stands.rule) j ≡ Some p.selector → i ≤ j)
    first = first_at (selectors_of last.1.stands.rule) p.selector last.1.stands.selector_in

    there : (q : PairPlace) × Contains (last_pairs items) (record { pair = p; place = q })
    there = (
      record { item = last.0.item; selector = first.0; decl = last.0.position },
      (law (λ n. true) items (record { pair = p; place = record { item = last.0.item; selector = first.0; decl = last.0.position } })).1
          (record {
            rule = last.1.stands.rule;
            item = last.1.stands.decl;
            rule_at = last.1.stands.rule_at;
            counted = refl;
            selector_at = first.1;
            selector_first = first.2;
            decl_at = last.1.stands.decl_at;
            decl_is = last.1.stands.decl_is;
            last = λ other g c later. last.1.last other g later;
          }),
    )

-- a pair at its last place is there
pub stands_there : (items : List Item) (x : PlacedPair) → StandsLast (λ n. true) items x → IsPairAt items x.pair (place_of x.place)
stands_there items x l = record {
  rule = l.rule;
  decl = l.item;
  rule_at = l.rule_at;
  selector_in = member (selectors_of l.rule) x.place.selector x.pair.selector l.selector_at;
  decl_at = l.decl_at;
  decl_is = l.decl_is;
}

-- ---- Repeated declarations

-- of a repeated one the last place of each pair is another one
pub not_here : (lasts : List PlacedPair) (item : ℕ) (rule : RuleParts) (number : ℕ) (d : Decl) (s : SelectorParts) →
    is_repeated lasts item rule.selectors number d ≡ true → Contains (selectors_of rule) s → is_here item number (last_in lasts (pair_of s d)) ≡ false
not_here lasts item rule number d s repeated has =
    let w : (x : SelItem) × Contains rule.selectors x × (x.selector ≡ s) = map_from (λ (x : SelItem). x.selector) rule.selectors s has in
    let h : not (is_here item number (last_in lasts (pair_of w.0.selector d))) ≡ true =
    all_at (λ (x : SelItem). not (is_here item number (last_in lasts (pair_of x.selector d)))) rule.selectors w.0 repeated w.1 in
    subst (λ (t : SelectorParts). is_here item number (last_in lasts (pair_of t d)) ≡ false) w.2 (not-true (is_here item number (last_in lasts (pair_of w.0.selector d))) h)

-- one at the last place of a pair is not repeated
pub here_single : (lasts : List PlacedPair) (item : ℕ) (rule : RuleParts) (number : ℕ) (d : Decl) (s : SelectorParts) →
    Contains (selectors_of rule) s → is_here item number (last_in lasts (pair_of s d)) ≡ true → is_repeated lasts item rule.selectors number d ≡ false
here_single lasts item rule number d s has here =
    let w : (x : SelItem) × Contains rule.selectors x × (x.selector ≡ s) = map_from (λ (x : SelItem). x.selector) rule.selectors s has in
    all_not (λ (x : SelItem). not (is_here item number (last_in lasts (pair_of x.selector d)))) rule.selectors w.0 w.1
    (not_from_true (is_here item number (last_in lasts (pair_of w.0.selector d))) (subst (λ (t : SelectorParts). is_here item number (last_in lasts (pair_of t d)) ≡ true) (sym w.2) here))

-- the last place of a pair of a repeated declaration is later
pub last_later : (items : List Item) (p : Pair) (place : Place) (x : PlacedPair) → IsPairAt items p place → x.pair ≡ p → StandsLast (λ n. true) items x →
    is_here place.item place.position (Some x) ≡ false → IsLater (place_of x.place) place
last_later items p place x h same l apart =
    later_elsewhere (place_of x.place) place (l.last place (subst (λ (q : Pair). IsPairAt items q place) (sym same) h) refl)
    (λ i d. false≢true (sym apart ∙ is_there place.item place.position x i d))

-- the law `RepeatingIsDecided`
pub repeating_decided : ListedStandsLast → RepeatingIsDecided
repeating_decided law items place rule d rule_at decl_at = (words, test)
  where
    pair_at : (s : SelectorParts) → Contains (selectors_of rule) s → IsPairAt items (pair_of s d.decl) place
    pair_at s has = record { rule = rule; decl = d; rule_at = rule_at; selector_in = has; decl_at = decl_at; decl_is = refl }

    words : is_repeated (last_pairs items) place.item rule.selectors place.position d.decl ≡ true → (s : SelectorParts) → Contains (selectors_of rule) s → ComesLater items (pair_of s d.decl) place
    words repeated s has =
        let w = last_found law items (pair_of s d.decl) place (pair_at s has) in
        let apart : is_here place.item place.position (Some w.0) ≡ false =
        subst (λ (o : Option PlacedPair). is_here place.item place.position o ≡ false) w.1 (not_here (last_pairs items) place.item rule place.position d.decl s repeated has) in (
          place_of w.0.place,
          subst (λ (q : Pair). IsPairAt items q (place_of w.0.place)) w.2 (stands_there items w.0 w.3),
          last_later items (pair_of s d.decl) place w.0 (pair_at s has) w.2 w.3 apart,
        )

    -- a pair that comes later is last elsewhere
    elsewhere : (s : SelectorParts) → ComesLater items (pair_of s d.decl) place → (o : Option PlacedPair) → last_in (last_pairs items) (pair_of s d.decl) ≡ o → is_here place.item place.position o ≡ true → ⊥
    elsewhere s later None e here = false≢true here
    elsewhere s later (Some x) e here =
        let at = here_is place.item place.position x here in
        let w = last_sound law items (pair_of s d.decl) x e in
        let same : place_of x.place ≡ place = ap₂ (λ (n m : ℕ). record { item = n; position = m }) at.0 at.1 in
        w.1.last later.0 (subst (λ (q : Pair). IsPairAt items q later.0) (sym w.0) later.1) refl (subst (λ (q : Place). IsLater later.0 q) (sym same) later.2)

    test : ((s : SelectorParts) → Contains (selectors_of rule) s → ComesLater items (pair_of s d.decl) place) → is_repeated (last_pairs items) place.item rule.selectors place.position d.decl ≡ true
    test h = all_from (λ (x : SelItem). not (is_here place.item place.position (last_in (last_pairs items) (pair_of x.selector d.decl)))) rule.selectors
        (λ x has. not_from_false (is_here place.item place.position (last_in (last_pairs items) (pair_of x.selector d.decl)))
        (false_from_ne_true (is_here place.item place.position (last_in (last_pairs items) (pair_of x.selector d.decl)))
        (elsewhere x.selector (h x.selector (map_has (λ (y : SelItem). y.selector) rule.selectors x has)) (last_in (last_pairs items) (pair_of x.selector d.decl)) refl)))
