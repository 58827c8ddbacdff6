-- The common pairs of two rules, and what is moved out of no item.
use Rattle.std.proofs.Common.{◌≡◌, ◌⊎◌, ℕ, suc, Bool, true, false, not, List, [], ◌∷◌, ◌++◌, refl, sym, ap, ap₂, ◌∙◌, inl, inr}
use Rattle.std.specs.Prelude.{◌&&◌, ◌||◌}
use Rattle.std.specs.List.{Contains, filter}
use Rattle.std.proofs.lemmas.Bool.{and_parts, and_from, or_cases, or_left, or_right}
use Rattle.css_model.proofs.ForCallers.{selector_decides}
use Rattle.css_model.specs.declared.sheet.Decl.{Decl}
use Rattle.css_model.specs.declared.sheet.Item.{Item}
use Rattle.css_model.specs.declared.sheet.SelItem.{SelItem}
use Rattle.css_model.specs.Cascade.Order.{Pair}
use Rattle.css_model.specs.Documents.SelectorParts.{SelectorParts}
use Rattle.css_model.specs.Sheets.RuleParts.{RuleParts}
use Rattle.list_facts.proofs.Members.{Contains-filter, Contains-filtered}
use Rattle.order_laws.proofs.ForCallers.{any_from, any_of, has_decl_is}
use Rattle.order_laws.specs.Edits.{is_moved}
use Rattle.order_laws.specs.Members.{same_selector, has_selector, has_decl, has_number}
use Rattle.order_laws.specs.Places.{last_pairs_from}
use Rattle.order_laws.specs.Reversed.{moved_pairs}
use Rattle.step_laws.proofs.ForCallers.{in_common, is_common}
use Rattle.step_laws.specs.RuleParting.{common_decls}
use Rattle.sheet_order.proofs.Lists.{same_test, any_append}
use Rattle.sheet_order.specs.Taking.{common_of, is_of_both, nothing}

abbrev lacks : List SelItem → SelItem → Bool
lacks upper t = not (has_selector upper t.selector)

-- the selectors of both rules
in_both : (upper lower : List SelItem) (s : SelectorParts) → has_selector (upper ++ filter (lacks upper) lower) s ≡ (has_selector upper s || has_selector lower s)
in_both upper lower s = any_append is upper (filter (lacks upper) lower) ∙ same_test (has_selector upper s || has_selector (filter (lacks upper) lower) s) (has_selector upper s || has_selector lower s) there back
  where
    is : SelItem → Bool
    is x = same_selector x.selector s

    there : (has_selector upper s || has_selector (filter (lacks upper) lower) s) ≡ true → (has_selector upper s || has_selector lower s) ≡ true
    there h = which (or_cases (has_selector upper s) (has_selector (filter (lacks upper) lower) s) h)
      where
        which : (has_selector upper s ≡ true) ⊎ (has_selector (filter (lacks upper) lower) s ≡ true) → (has_selector upper s || has_selector lower s) ≡ true
        which (inl e) = or_left (has_selector upper s) (has_selector lower s) e
        which (inr e) =
            let w : (x : SelItem) × Contains (filter (lacks upper) lower) x × (is x ≡ true) = any_from is (filter (lacks upper) lower) e in
            or_right (has_selector upper s) (has_selector lower s) (any_of is lower w.0 (Contains-filter (lacks upper) lower w.0 w.1).0 w.2)

    back : (has_selector upper s || has_selector lower s) ≡ true → (has_selector upper s || has_selector (filter (lacks upper) lower) s) ≡ true
    back h = which (has_selector upper s) refl (or_cases (has_selector upper s) (has_selector lower s) h)
      where
        which : (b : Bool) → has_selector upper s ≡ b → (has_selector upper s ≡ true) ⊎ (has_selector lower s ≡ true) → (has_selector upper s || has_selector (filter (lacks upper) lower) s) ≡ true
        which true e g = or_left (has_selector upper s) (has_selector (filter (lacks upper) lower) s) e
        which false e (inl g) = or_left (has_selector upper s) (has_selector (filter (lacks upper) lower) s) g
        which false e (inr g) =
            let w : (x : SelItem) × Contains lower x × (is x ≡ true) = any_from is lower g in
            let same : w.0.selector ≡ s = (selector_decides w.0.selector s).0 w.2 in
            or_right (has_selector upper s) (has_selector (filter (lacks upper) lower) s)
            (any_of is (filter (lacks upper) lower) w.0 (Contains-filtered (lacks upper) lower w.0 w.1 (ap (λ (t : SelectorParts). not (has_selector upper t)) same ∙ ap not e)) w.2)

-- the declarations of both rules
of_both : (u l : RuleParts) (d : Decl) → has_decl (common_decls u l) d ≡ (has_decl u.decls d && has_decl l.decls d)
of_both u l d = same_test (has_decl (common_decls u l) d) (has_decl u.decls d && has_decl l.decls d)
    (λ h. let w = in_common u l d ((has_decl_is (common_decls u l) d).0 h) in and_from (has_decl u.decls d) (has_decl l.decls d) ((has_decl_is u.decls d).1 w.0) ((has_decl_is l.decls d).1 w.1))
    (λ h. let w = and_parts (has_decl u.decls d) (has_decl l.decls d) h in is_common u l d ((has_decl_is u.decls d).0 w.0) ((has_decl_is l.decls d).0 w.1))

pub common_is : (x y : ℕ) (u l : RuleParts) (p : Pair) → is_of_both u l p ≡ is_moved (common_of x y u l) p
common_is x y u l p = sym (ap₂ (λ (a b : Bool). a && b) (in_both u.selectors l.selectors p.selector) (of_both u l p.decl))

-- no item counts
none_counts : (n : ℕ) (items : List Item) → last_pairs_from (has_number []) n items ≡ []
none_counts n [] = refl
none_counts n (item ∷ items) = none_counts (suc n) items

pub nothing_moves : (items : List Item) → moved_pairs items nothing ≡ []
nothing_moves items = ap (filter (λ p. is_moved nothing p.pair)) (none_counts 0 items)
