-- Each pair that stands in an item that counts is in the list of last places, and each kept item has a place.
use Rattle.std.proofs.Common.{◌≡◌, ◌⊎◌, ℕ, zero, suc, ◌+◌, Bool, true, false, not, List, [], ◌∷◌, ◌++◌, map, Some, None, refl, sym, ap, ap₂, ◌∙◌, subst, inl, inr, arith}
use Rattle.std.specs.Prelude.{slice_get}
use Rattle.std.specs.List.{Contains, filter}
use Rattle.std.proofs.lemmas.Bool.{cond_both, cond-true, cond-false, and_parts, not_from_false}
use Rattle.std.proofs.lemmas.List.Elements.{Contains-append_left, Contains-append_right}
use Rattle.cascade_laws.proofs.ForCallers.{some-same}
use Rattle.list_facts.proofs.Members.{Contains-here, Contains-there, Contains-nil, Contains-cons_cases, Contains-filtered}
use Rattle.css_model.proofs.ForCallers.{decl_decides, selector_decides}
use Rattle.css_model.specs.declared.sheet.Decl.{Decl}
use Rattle.css_model.specs.declared.sheet.DeclItem.{DeclItem}
use Rattle.css_model.specs.declared.sheet.Item.{Item}
use Rattle.css_model.specs.declared.sheet.Item.TheVariants.{Rule, KeptRule, KeptBlock}
use Rattle.css_model.specs.declared.sheet.SelItem.{SelItem}
use Rattle.css_model.specs.Cascade.Order.{Pair, IsPairAt}
use Rattle.css_model.specs.Cascade.Winner.{Place}
use Rattle.css_model.specs.Documents.SelectorParts.{SelectorParts}
use Rattle.css_model.specs.Sheets.KeptItems.{is_kept, kept_before, kept_items}
use Rattle.css_model.specs.Sheets.RuleParts.{RuleParts}
use Rattle.order_laws.specs.Members.{has_decl, same_decl, same_pair, same_selector}
use Rattle.order_laws.specs.Places.{PlacedPair, first_selectors, last_decls, placed, pairs_of, has_pair, last_pairs_from, StandsLast, ListedStandsLast}
use Rattle.order_laws.proofs.ForCallers.{any_from, map_has, flat_map_has, decls, sels, decl_in, has_decl_is}

abbrev at : ℕ → ℕ → Place
at item position = record { item = item; position = position }

abbrev numbered : {A : Type 0} → ℕ → A → ℕ × A
numbered n x = (n, x)

pub pair_is : (p q : Pair) → same_pair p q ≡ true → p ≡ q
pair_is p q h =
    let w : (same_selector p.selector q.selector ≡ true) × (same_decl p.decl q.decl ≡ true) = and_parts (same_selector p.selector q.selector) (same_decl p.decl q.decl) h in
    ap₂ (λ (s : SelectorParts) (d : Decl). record { selector = s; decl = d }) ((selector_decides p.selector q.selector).0 w.0) ((decl_decides p.decl q.decl).0 w.1)

last_decls_complete : (n : ℕ) (ds : List DeclItem) (d : Decl) → Contains (decls ds) d → (k : ℕ) × Contains (last_decls n ds) (k, d)
last_decls_complete n [] d h = absurd (Contains-nil d h)
last_decls_complete n (x ∷ ds) d h = which (last_decls_complete (suc n) ds d) (Contains-cons_cases x.decl (decls ds) d h)
  where
    rest : ((k : ℕ) × Contains (last_decls (suc n) ds) (k, d)) → (k : ℕ) × Contains (last_decls n (x ∷ ds)) (k, d)
    rest w = (w.0, cond_both (has_decl ds x.decl) (last_decls (suc n) ds) (numbered n x.decl ∷ last_decls (suc n) ds) (λ ys. Contains ys (w.0, d)) (λ again. w.1) (λ once. Contains-there (numbered n x.decl) (last_decls (suc n) ds) (numbered w.0 d) w.1))

    here : (Contains (decls ds) d → (k : ℕ) × Contains (last_decls (suc n) ds) (k, d)) → x.decl ≡ d → (b : Bool) → has_decl ds x.decl ≡ b → (k : ℕ) × Contains (last_decls n (x ∷ ds)) (k, d)
    here ih e true again = rest (ih (subst (λ (z : Decl). Contains (decls ds) z) e ((has_decl_is ds x.decl).0 again)))
    here ih e false once = (
      n,
      subst (λ (ys : List (ℕ × Decl)). Contains ys (n, d)) (sym (cond-false (has_decl ds x.decl) (last_decls (suc n) ds) (numbered n x.decl ∷ last_decls (suc n) ds) once))
          (subst (λ (z : Decl). Contains (numbered n x.decl ∷ last_decls (suc n) ds) (n, z)) e (Contains-here (numbered n x.decl) (last_decls (suc n) ds))),
    )

    which : (Contains (decls ds) d → (k : ℕ) × Contains (last_decls (suc n) ds) (k, d)) → (x.decl ≡ d) ⊎ Contains (decls ds) d → (k : ℕ) × Contains (last_decls n (x ∷ ds)) (k, d)
    which ih (inl e) = here ih e (has_decl ds x.decl) refl
    which ih (inr g) = rest (ih g)

first_selectors_complete : (n : ℕ) (ss : List SelItem) (s : SelectorParts) → Contains (sels ss) s → (k : ℕ) × Contains (first_selectors n ss) (k, s)
first_selectors_complete n [] s h = absurd (Contains-nil s h)
first_selectors_complete n (x ∷ ss) s h = which (first_selectors_complete (suc n) ss s) (Contains-cons_cases x.selector (sels ss) s h)
  where
    here : x.selector ≡ s → (k : ℕ) × Contains (first_selectors n (x ∷ ss)) (k, s)
    here e = (n, subst (λ (z : SelectorParts). Contains (first_selectors n (x ∷ ss)) (n, z)) e (Contains-here (numbered n x.selector) (filter (λ t. not (same_selector t.1 x.selector)) (first_selectors (suc n) ss))))

    there : (w : (k : ℕ) × Contains (first_selectors (suc n) ss) (k, s)) → (b : Bool) → same_selector s x.selector ≡ b → (k : ℕ) × Contains (first_selectors n (x ∷ ss)) (k, s)
    there w true same = here (sym ((selector_decides s x.selector).0 same))
    there w false other = (
      w.0,
      Contains-there (numbered n x.selector) (filter (λ t. not (same_selector t.1 x.selector)) (first_selectors (suc n) ss)) (numbered w.0 s)
          (Contains-filtered (λ t. not (same_selector t.1 x.selector)) (first_selectors (suc n) ss) (numbered w.0 s) w.1 (not_from_false (same_selector s x.selector) other)),
    )

    which : (Contains (sels ss) s → (k : ℕ) × Contains (first_selectors (suc n) ss) (k, s)) → (x.selector ≡ s) ⊎ Contains (sels ss) s → (k : ℕ) × Contains (first_selectors n (x ∷ ss)) (k, s)
    which ih (inl e) = here e
    which ih (inr g) = there (ih g) (same_selector s x.selector) refl

pairs_of_complete : (n : ℕ) (r : RuleParts) (p : Pair) → Contains (sels r.selectors) p.selector → Contains (decls r.decls) p.decl → (x : PlacedPair) × Contains (pairs_of n (Rule r)) x × (x.pair ≡ p)
pairs_of_complete n r p hs hd =
    let k : (k : ℕ) × Contains (first_selectors 0 r.selectors) (k, p.selector) = first_selectors_complete 0 r.selectors p.selector hs in
    let l : (k : ℕ) × Contains (last_decls 0 r.decls) (k, p.decl) = last_decls_complete 0 r.decls p.decl hd in (
      placed n (k.0, p.selector) (l.0, p.decl),
      flat_map_has (λ s. map (placed n s) (last_decls 0 r.decls)) (first_selectors 0 r.selectors) (k.0, p.selector) (placed n (k.0, p.selector) (l.0, p.decl)) k.1
          (map_has (placed n (k.0, p.selector)) (last_decls 0 r.decls) (l.0, p.decl) l.1),
      refl,
    )

pub has_pair_from : (xs : List PlacedPair) (p : Pair) → has_pair xs p ≡ true → (x : PlacedPair) × Contains xs x × (x.pair ≡ p)
has_pair_from xs p h = let w : (x : PlacedPair) × Contains xs x × (same_pair x.pair p ≡ true) = any_from (λ x. same_pair x.pair p) xs h in (w.0, w.1, pair_is w.0.pair p w.2)

among : (item : Item) (items : List Item) (p : Pair) (m position : ℕ) → IsPairAt (item ∷ items) p (at (suc m) position) → IsPairAt items p (at m position)
among item items p m position h = record { rule = h.rule; decl = h.decl; rule_at = h.rule_at; selector_in = h.selector_in; decl_at = h.decl_at; decl_is = h.decl_is }

-- what is in the later part is in the whole
in_later : (counts : ℕ → Bool) (n : ℕ) (item : Item) (items : List Item) (x : PlacedPair) → Contains (last_pairs_from counts (suc n) items) x → Contains (last_pairs_from counts n (item ∷ items)) x
in_later counts n item items x h =
    let later : List PlacedPair = last_pairs_from counts (suc n) items in
    let own : List PlacedPair = filter (λ p. not (has_pair later p.pair)) (pairs_of n item) in
    cond_both (counts n) (own ++ later) later (λ ys. Contains ys x) (λ counted. Contains-append_right own later x h) (λ other. h)

in_own : (counts : ℕ → Bool) (n : ℕ) (item : Item) (items : List Item) (x : PlacedPair) → counts n ≡ true → Contains (pairs_of n item) x → has_pair (last_pairs_from counts (suc n) items) x.pair ≡ false →
    Contains (last_pairs_from counts n (item ∷ items)) x
in_own counts n item items x counted h none =
    let later : List PlacedPair = last_pairs_from counts (suc n) items in
    let own : List PlacedPair = filter (λ p. not (has_pair later p.pair)) (pairs_of n item) in
    subst (λ (ys : List PlacedPair). Contains ys x) (sym (cond-true (counts n) (own ++ later) later counted))
    (Contains-append_left own later x (Contains-filtered (λ p. not (has_pair later p.pair)) (pairs_of n item) x h (not_from_false (has_pair later x.pair) none)))

last_pairs_complete : (counts : ℕ → Bool) (n : ℕ) (items : List Item) (p : Pair) (i k : ℕ) → IsPairAt items p (at i k) → counts (n + i) ≡ true → (x : PlacedPair) × Contains (last_pairs_from counts n items) x × (x.pair ≡ p)
last_pairs_complete counts n [] p i k h counted = absurd (let e : None ≡ Some (Rule h.rule) = h.rule_at in cc)
last_pairs_complete counts n (item ∷ items) p zero k h counted = which (has_pair (last_pairs_from counts (suc n) items) p) refl
  where
    own : (x : PlacedPair) × Contains (pairs_of n item) x × (x.pair ≡ p)
    own = subst (λ (y : Item). (x : PlacedPair) × Contains (pairs_of n y) x × (x.pair ≡ p)) (sym (some-same h.rule_at))
        (pairs_of_complete n h.rule p h.selector_in (subst (λ (d : Decl). Contains (decls h.rule.decls) d) h.decl_is (decl_in h.rule.decls k h.decl h.decl_at)))

    counts_n : counts n ≡ true
    counts_n = let e : n + 0 ≡ n = omega arith in subst (λ (m : ℕ). counts m ≡ true) e counted

    which : (b : Bool) → has_pair (last_pairs_from counts (suc n) items) p ≡ b → (x : PlacedPair) × Contains (last_pairs_from counts n (item ∷ items)) x × (x.pair ≡ p)
    which true again = let w : (x : PlacedPair) × Contains (last_pairs_from counts (suc n) items) x × (x.pair ≡ p) = has_pair_from (last_pairs_from counts (suc n) items) p again in (w.0, in_later counts n item items w.0 w.1, w.2)
    which false once = (own.0, in_own counts n item items own.0 counts_n own.1 (ap (has_pair (last_pairs_from counts (suc n) items)) own.2 ∙ once), own.2)
last_pairs_complete counts n (item ∷ items) p (suc i) k h counted =
    let e : n + suc i ≡ suc n + i = omega arith in
    let w : (x : PlacedPair) × Contains (last_pairs_from counts (suc n) items) x × (x.pair ≡ p) = last_pairs_complete counts (suc n) items p i k (among item items p i k h) (subst (λ (m : ℕ). counts m ≡ true) e counted) in
    (w.0, in_later counts n item items w.0 w.1, w.2)

-- a pair that stands in an item that counts stands last somewhere
pub stands_somewhere : ListedStandsLast → (counts : ℕ → Bool) (items : List Item) (p : Pair) (place : Place) → IsPairAt items p place → counts place.item ≡ true → (x : PlacedPair) × StandsLast counts items x × (x.pair ≡ p)
stands_somewhere law counts items p place h c =
    let e : place.item ≡ 0 + place.item = omega arith in
    let w : (x : PlacedPair) × Contains (last_pairs_from counts 0 items) x × (x.pair ≡ p) = last_pairs_complete counts 0 items p place.item place.position h (subst (λ (n : ℕ). counts n ≡ true) e c) in
    (w.0, (law counts items w.0).0 w.1, w.2)

-- ---- Kept items

-- where a kept item of a number stands
pub record KeptPlace (items : List Item) (n : ℕ) (x : Item) : Type 0 where
  pub index : ℕ
  pub at : slice_get items index ≡ Some x
  pub kept : is_kept x ≡ true
  pub number : kept_before index items ≡ n

pub place_of_kept : (items : List Item) (n : ℕ) (x : Item) → slice_get (kept_items items) n ≡ Some x → KeptPlace items n x
place_of_kept [] n x at = absurd (let h : None ≡ Some x = at in cc)
place_of_kept (Rule r ∷ items) n x at = let p : KeptPlace items n x = place_of_kept items n x at in record { index = suc p.index; at = p.at; kept = p.kept; number = p.number }
place_of_kept (KeptRule j ∷ items) zero x at = record { index = 0; at = at; kept = ap is_kept (sym (some-same at)); number = refl }
place_of_kept (KeptRule j ∷ items) (suc n) x at = let p : KeptPlace items n x = place_of_kept items n x at in record { index = suc p.index; at = p.at; kept = p.kept; number = ap suc p.number }
place_of_kept (KeptBlock j ∷ items) zero x at = record { index = 0; at = at; kept = ap is_kept (sym (some-same at)); number = refl }
place_of_kept (KeptBlock j ∷ items) (suc n) x at = let p : KeptPlace items n x = place_of_kept items n x at in record { index = suc p.index; at = p.at; kept = p.kept; number = ap suc p.number }
