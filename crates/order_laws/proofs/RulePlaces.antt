-- The lists of places: what stands in them, and that each pair does.
use Rattle.std.proofs.Common.{◌≡◌, ◌≢◌, ◌⊎◌, ℕ, zero, suc, ◌+◌, ◌≤◌, Bool, true, false, not, List, [], ◌∷◌, Some, refl, sym, ap, ap₂, ◌∙◌, subst, inl, inr, arith}
use Rattle.std.specs.Prelude.{slice_get}
use Rattle.std.specs.List.{Contains, filter}
use Rattle.std.proofs.lemmas.Bool.{false≢true, cond_both, cond-false, and_parts, and_from, not-true, not_from_false}
use Rattle.cascade_laws.proofs.ForCallers.{some-same}
use Rattle.list_facts.proofs.Members.{Contains-here, Contains-there, Contains-nil, Contains-cons_cases, Contains-filter, Contains-filtered}
use Rattle.css_model.proofs.ForCallers.{decl_decides, selector_decides}
use Rattle.css_model.specs.declared.sheet.Decl.{Decl}
use Rattle.css_model.specs.declared.sheet.DeclItem.{DeclItem}
use Rattle.css_model.specs.declared.sheet.SelItem.{SelItem}
use Rattle.css_model.specs.Cascade.Order.{Pair}
use Rattle.css_model.specs.Documents.SelectorParts.{SelectorParts}
use Rattle.order_laws.specs.Members.{has_decl, same_decl, same_pair, same_selector}
use Rattle.order_laws.specs.Places.{first_selectors, last_decls}
use Rattle.order_laws.proofs.LastPlaces.{LastIn}
use Rattle.order_laws.proofs.RulePairs.{decls, sels, decl_in, behind_last, has_decl_is}

-- ---- Equal pairs

pub pair_is : (p q : Pair) → same_pair p q ≡ true → p ≡ q
pair_is p q h =
    let w : (same_selector p.selector q.selector ≡ true) × (same_decl p.decl q.decl ≡ true) = and_parts (same_selector p.selector q.selector) (same_decl p.decl q.decl) h in
    ap₂ (λ (s : SelectorParts) (d : Decl). record { selector = s; decl = d }) ((selector_decides p.selector q.selector).0 w.0) ((decl_decides p.decl q.decl).0 w.1)

pub is_pair : (p q : Pair) → p ≡ q → same_pair p q ≡ true
is_pair p q e =
    and_from (same_selector p.selector q.selector) (same_decl p.decl q.decl)
    ((selector_decides p.selector q.selector).1 (ap (λ (r : Pair). r.selector) e))
    ((decl_decides p.decl q.decl).1 (ap (λ (r : Pair). r.decl) e))

-- ---- The declarations of a rule

abbrev numbered : {A : Type 0} → ℕ → A → ℕ × A
numbered n x = (n, x)

pub last_decls_sound : (n : ℕ) (ds : List DeclItem) (k : ℕ) (d : Decl) → Contains (last_decls n ds) (k, d) → (j : ℕ) × (k ≡ n + j) × LastIn ds d j
last_decls_sound n [] k d = λ h. absurd (Contains-nil (numbered k d) h)
last_decls_sound n (x ∷ ds) k d =
    cond_both (has_decl ds x.decl) (last_decls (suc n) ds) (numbered n x.decl ∷ last_decls (suc n) ds)
    (λ ys. Contains ys (k, d) → (j : ℕ) × (k ≡ n + j) × LastIn (x ∷ ds) d j)
    (λ again h. later (last_decls_sound (suc n) ds k d h))
    (λ once h. which once (last_decls_sound (suc n) ds k d) (Contains-cons_cases (numbered n x.decl) (last_decls (suc n) ds) (k, d) h))
  where
    later : (j : ℕ) × (k ≡ suc n + j) × LastIn ds d j → (j : ℕ) × (k ≡ n + j) × LastIn (x ∷ ds) d j
    later w = (suc w.0, omega (arith, w.1), behind_last x ds d w.0 w.2)

    first : has_decl ds x.decl ≡ false → x.decl ≡ d → (j : ℕ) (y : DeclItem) → slice_get (x ∷ ds) j ≡ Some y → y.decl ≡ d → j ≤ 0
    first once e zero y at g = omega arith
    first once e (suc j) y at g = absurd (false≢true (sym once ∙ (has_decl_is ds x.decl).1 (subst (λ (z : Decl). Contains (decls ds) z) (g ∙ sym e) (decl_in ds j y at))))

    which : has_decl ds x.decl ≡ false → (Contains (last_decls (suc n) ds) (k, d) → (j : ℕ) × (k ≡ suc n + j) × LastIn ds d j) →
        (numbered n x.decl ≡ numbered k d) ⊎ Contains (last_decls (suc n) ds) (k, d) → (j : ℕ) × (k ≡ n + j) × LastIn (x ∷ ds) d j
    which once ih (inl e) =
        let number : n ≡ k = ap (λ (w : ℕ × Decl). w.0) e in
        let same : x.decl ≡ d = ap (λ (w : ℕ × Decl). w.1) e in
        (0, omega (arith, number), record { item = x; at = refl; is = same; last = first once same })
    which once ih (inr h) = later (ih h)

pub last_decls_complete : (n : ℕ) (ds : List DeclItem) (d : Decl) → Contains (decls ds) d → (k : ℕ) × Contains (last_decls n ds) (k, d)
last_decls_complete n [] d h = absurd (Contains-nil d h)
last_decls_complete n (x ∷ ds) d h = which (last_decls_complete (suc n) ds d) (Contains-cons_cases x.decl (decls ds) d h)
  where
    rest : ((k : ℕ) × Contains (last_decls (suc n) ds) (k, d)) → (k : ℕ) × Contains (last_decls n (x ∷ ds)) (k, d)
    rest w = (w.0, cond_both (has_decl ds x.decl) (last_decls (suc n) ds) (numbered n x.decl ∷ last_decls (suc n) ds) (λ ys. Contains ys (w.0, d)) (λ again. w.1) (λ once. Contains-there (numbered n x.decl) (last_decls (suc n) ds) (numbered w.0 d) w.1))

    here : (Contains (decls ds) d → (k : ℕ) × Contains (last_decls (suc n) ds) (k, d)) → x.decl ≡ d → (b : Bool) → has_decl ds x.decl ≡ b → (k : ℕ) × Contains (last_decls n (x ∷ ds)) (k, d)
    here ih e true again = rest (ih (subst (λ (z : Decl). Contains (decls ds) z) e ((has_decl_is ds x.decl).0 again)))
    here ih e false once = (
      n,
      subst (λ (ys : List (ℕ × Decl)). Contains ys (n, d)) (sym (cond-false (has_decl ds x.decl) (last_decls (suc n) ds) (numbered n x.decl ∷ last_decls (suc n) ds) once))
          (subst (λ (z : Decl). Contains (numbered n x.decl ∷ last_decls (suc n) ds) (n, z)) e (Contains-here (numbered n x.decl) (last_decls (suc n) ds))),
    )

    which : (Contains (decls ds) d → (k : ℕ) × Contains (last_decls (suc n) ds) (k, d)) → (x.decl ≡ d) ⊎ Contains (decls ds) d → (k : ℕ) × Contains (last_decls n (x ∷ ds)) (k, d)
    which ih (inl e) = here ih e (has_decl ds x.decl) refl
    which ih (inr g) = rest (ih g)

-- ---- The selectors of a rule

-- a selector of a list stands first here
pub record FirstIn (ss : List SelItem) (s : SelectorParts) (i : ℕ) : Type 0 where
  pub at : slice_get (sels ss) i ≡ Some s
  pub first : (j : ℕ) → slice_get (sels ss) j ≡ Some s → i ≤ j

pub first_selectors_sound : (n : ℕ) (ss : List SelItem) (k : ℕ) (s : SelectorParts) → Contains (first_selectors n ss) (k, s) → (j : ℕ) × (k ≡ n + j) × FirstIn ss s j
first_selectors_sound n [] k s h = absurd (Contains-nil (numbered k s) h)
first_selectors_sound n (x ∷ ss) k s h = which (first_selectors_sound (suc n) ss k s) (Contains-cons_cases (numbered n x.selector) (filter (λ t. not (same_selector t.1 x.selector)) (first_selectors (suc n) ss)) (k, s) h)
  where
    other : s ≢ x.selector → (j : ℕ) → FirstIn ss s j → (i : ℕ) → slice_get (sels (x ∷ ss)) i ≡ Some s → suc j ≤ i
    other apart j f zero at = absurd (apart (sym (some-same at)))
    other apart j f (suc i) at = let g : j ≤ i = f.first i at in omega arith

    which : (Contains (first_selectors (suc n) ss) (k, s) → (j : ℕ) × (k ≡ suc n + j) × FirstIn ss s j) →
        (numbered n x.selector ≡ numbered k s) ⊎ Contains (filter (λ t. not (same_selector t.1 x.selector)) (first_selectors (suc n) ss)) (k, s) → (j : ℕ) × (k ≡ n + j) × FirstIn (x ∷ ss) s j
    which ih (inl e) =
        let number : n ≡ k = ap (λ (w : ℕ × SelectorParts). w.0) e in
        (0, omega (arith, number), record { at = ap (λ (w : ℕ × SelectorParts). Some w.1) e; first = λ j at. omega arith })
    which ih (inr g) =
        let w : Contains (first_selectors (suc n) ss) (k, s) × (not (same_selector s x.selector) ≡ true) = Contains-filter (λ t. not (same_selector t.1 x.selector)) (first_selectors (suc n) ss) (k, s) g in
        let l : (j : ℕ) × (k ≡ suc n + j) × FirstIn ss s j = ih w.0 in
        let apart : s ≢ x.selector = λ e. false≢true (sym (not-true (same_selector s x.selector) w.1) ∙ (selector_decides s x.selector).1 e) in
        (suc l.0, omega (arith, l.1), record { at = l.2.at; first = other apart l.0 l.2 })

pub first_selectors_complete : (n : ℕ) (ss : List SelItem) (s : SelectorParts) → Contains (sels ss) s → (k : ℕ) × Contains (first_selectors n ss) (k, s)
first_selectors_complete n [] s h = absurd (Contains-nil s h)
first_selectors_complete n (x ∷ ss) s h = which (first_selectors_complete (suc n) ss s) (Contains-cons_cases x.selector (sels ss) s h)
  where
    here : x.selector ≡ s → (k : ℕ) × Contains (first_selectors n (x ∷ ss)) (k, s)
    here e = (n, subst (λ (z : SelectorParts). Contains (first_selectors n (x ∷ ss)) (n, z)) e (Contains-here (numbered n x.selector) (filter (λ t. not (same_selector t.1 x.selector)) (first_selectors (suc n) ss))))

    there : (w : (k : ℕ) × Contains (first_selectors (suc n) ss) (k, s)) → (b : Bool) → same_selector s x.selector ≡ b → (k : ℕ) × Contains (first_selectors n (x ∷ ss)) (k, s)
    there w true same = here (sym ((selector_decides s x.selector).0 same))
    there w false other = (
      w.0,
      Contains-there (numbered n x.selector) (filter (λ t. not (same_selector t.1 x.selector)) (first_selectors (suc n) ss)) (numbered w.0 s)
          (Contains-filtered (λ t. not (same_selector t.1 x.selector)) (first_selectors (suc n) ss) (numbered w.0 s) w.1 (not_from_false (same_selector s x.selector) other)),
    )

    which : (Contains (sels ss) s → (k : ℕ) × Contains (first_selectors (suc n) ss) (k, s)) → (x.selector ≡ s) ⊎ Contains (sels ss) s → (k : ℕ) × Contains (first_selectors n (x ∷ ss)) (k, s)
    which ih (inl e) = here e
    which ih (inr g) = there (ih g) (same_selector s x.selector) refl
