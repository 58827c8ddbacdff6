-- Lists in which nothing stands twice are no longer than others that have all that they have.
use Rattle.std.proofs.Common.{◌≡◌, ◌⊎◌, suc, ◌≤◌, true, List, [], ◌∷◌, length, refl, sym, ap, subst, inl, inr, ◌∙◌, arith}
use Rattle.std.specs.List.{Contains}
use Rattle.std.proofs.lemmas.Bool.{cond_both, false≢true}
use Rattle.list_facts.proofs.Members.{Contains-here, Contains-there, Contains-nil, Contains-cons_cases}
use Rattle.css_model.specs.declared.sheet.Decl.{Decl}
use Rattle.css_model.specs.declared.sheet.DeclItem.{DeclItem}
use Rattle.css_model.specs.declared.sheet.SelItem.{SelItem}
use Rattle.css_model.specs.Documents.SelectorParts.{SelectorParts}
use Rattle.order_laws.proofs.ForCallers.{decls, sels, has_decl_is, has_selector_is}
use Rattle.order_laws.specs.Members.{has_decl, has_selector}
use Rattle.step_laws.specs.RuleParting.{each_last}
use Rattle.plan_laws.specs.Limit.PairLimit.{IsOnce, each_once}

-- ---- Any lists

-- a list without one of the places of an element
record Without {X : Type 0} (x : X) (ys : List X) : Type 0 where
  pub rest : List X
  pub count : length ys ≡ suc (length rest)
  pub others : (z : X) → Contains ys z → (z ≡ x → ⊥) → Contains rest z

without : {X : Type 0} (x : X) (ys : List X) → Contains ys x → Without x ys
without x [] h = absurd (Contains-nil x h)
without {X = X} x (y ∷ ys) h = which (Contains-cons_cases y ys x h) (without x ys)
  where
    here : y ≡ x → (z : X) → (z ≡ x → ⊥) → (y ≡ z) ⊎ Contains ys z → Contains ys z
    here e z other (inl f) = absurd (other (sym f ∙ e))
    here e z other (inr c) = c

    there : (w : Without x ys) (z : X) → (z ≡ x → ⊥) → (y ≡ z) ⊎ Contains ys z → Contains (y ∷ w.rest) z
    there w z other (inl f) = subst (Contains (y ∷ w.rest)) f (Contains-here y w.rest)
    there w z other (inr c) = Contains-there y w.rest z (w.others z c other)

    which : (y ≡ x) ⊎ Contains ys x → (Contains ys x → Without x ys) → Without x (y ∷ ys)
    which (inl e) ih = record { rest = ys; count = refl; others = λ z c other. here e z other (Contains-cons_cases y ys z c) }
    which (inr g) ih = let w : Without x ys = ih g in
        record { rest = y ∷ w.rest; count = ap suc w.count; others = λ z c other. there w z other (Contains-cons_cases y ys z c) }

pub no_longer : {X : Type 0} (xs ys : List X) → IsOnce xs → ((x : X) → Contains xs x → Contains ys x) → length xs ≤ length ys
no_longer [] ys once among = omega arith
no_longer (x ∷ xs) ys once among =
    let w : Without x ys = without x ys (among x (Contains-here x xs)) in
    let ih : length xs ≤ length w.rest =
    no_longer xs w.rest once.1 (λ z c. w.others z (among z (Contains-there x xs z c)) (λ e. once.0 (subst (Contains xs) e c))) in
    let c : length ys ≡ suc (length w.rest) = w.count in
    let e : suc (length xs) ≤ length ys = omega (arith, ih, c) in
    e

-- ---- Selectors

pub once_in : (ss : List SelItem) (s : SelectorParts) → Contains (sels (each_once ss)) s → Contains (sels ss) s
once_in [] s = λ h. h
once_in (x ∷ ss) s = cond_both (has_selector ss x.selector) (each_once ss) (x ∷ each_once ss) (λ ys. Contains (sels ys) s → Contains (sels (x ∷ ss)) s)
    (λ again h. Contains-there x.selector (sels ss) s (once_in ss s h))
    (λ last h. which (once_in ss s) (Contains-cons_cases x.selector (sels (each_once ss)) s h))
  where
    which : (Contains (sels (each_once ss)) s → Contains (sels ss) s) → (x.selector ≡ s) ⊎ Contains (sels (each_once ss)) s → Contains (sels (x ∷ ss)) s
    which ih (inl e) = subst (Contains (sels (x ∷ ss))) e (Contains-here x.selector (sels ss))
    which ih (inr c) = Contains-there x.selector (sels ss) s (ih c)

pub in_once : (ss : List SelItem) (s : SelectorParts) → Contains (sels ss) s → Contains (sels (each_once ss)) s
in_once [] s h = h
in_once (x ∷ ss) s h = which (in_once ss s) (Contains-cons_cases x.selector (sels ss) s h)
  where
    which : (Contains (sels ss) s → Contains (sels (each_once ss)) s) → (x.selector ≡ s) ⊎ Contains (sels ss) s → Contains (sels (each_once (x ∷ ss))) s
    which ih (inl e) = cond_both (has_selector ss x.selector) (each_once ss) (x ∷ each_once ss) (λ ys. Contains (sels ys) s)
        (λ again. ih (subst (Contains (sels ss)) e ((has_selector_is ss x.selector).0 again)))
        (λ last. subst (Contains (sels (x ∷ each_once ss))) e (Contains-here x.selector (sels (each_once ss))))
    which ih (inr c) = cond_both (has_selector ss x.selector) (each_once ss) (x ∷ each_once ss) (λ ys. Contains (sels ys) s)
        (λ again. ih c) (λ last. Contains-there x.selector (sels (each_once ss)) s (ih c))

pub each_is_once : (ss : List SelItem) → IsOnce (sels (each_once ss))
each_is_once [] = tt
each_is_once (x ∷ ss) =
    let ih : IsOnce (sels (each_once ss)) = each_is_once ss in
    cond_both (has_selector ss x.selector) (each_once ss) (x ∷ each_once ss) (λ ys. IsOnce (sels ys)) (λ again. ih)
    (λ last. ((λ c. let again : has_selector ss x.selector ≡ true = (has_selector_is ss x.selector).1 (once_in ss x.selector c) in false≢true (sym last ∙ again)), ih))

-- ---- Declarations

pub last_in : (ds : List DeclItem) (d : Decl) → Contains (decls (each_last ds)) d → Contains (decls ds) d
last_in [] d = λ h. h
last_in (x ∷ ds) d = cond_both (has_decl ds x.decl) (each_last ds) (x ∷ each_last ds) (λ ys. Contains (decls ys) d → Contains (decls (x ∷ ds)) d)
    (λ again h. Contains-there x.decl (decls ds) d (last_in ds d h))
    (λ last h. which (last_in ds d) (Contains-cons_cases x.decl (decls (each_last ds)) d h))
  where
    which : (Contains (decls (each_last ds)) d → Contains (decls ds) d) → (x.decl ≡ d) ⊎ Contains (decls (each_last ds)) d → Contains (decls (x ∷ ds)) d
    which ih (inl e) = subst (Contains (decls (x ∷ ds))) e (Contains-here x.decl (decls ds))
    which ih (inr c) = Contains-there x.decl (decls ds) d (ih c)

pub last_is_once : (ds : List DeclItem) → IsOnce (decls (each_last ds))
last_is_once [] = tt
last_is_once (x ∷ ds) =
    let ih : IsOnce (decls (each_last ds)) = last_is_once ds in
    cond_both (has_decl ds x.decl) (each_last ds) (x ∷ each_last ds) (λ ys. IsOnce (decls ys)) (λ again. ih)
    (λ last. ((λ c. let again : has_decl ds x.decl ≡ true = (has_decl_is ds x.decl).1 (last_in ds x.decl c) in false≢true (sym last ∙ again)), ih))
