-- The tests of where pairs stand are what is said in words.
use Rattle.std.proofs.Common.{◌≡◌, ◌↔◌, ◌⊎◌, ℕ, zero, suc, Bool, true, false, not, ◌&&◌, ◌||◌, List, [], ◌∷◌, Some, None, refl, sym, ◌∙◌, subst, inl, inr}
use Rattle.std.specs.Prelude.{if◌then◌else◌, slice_get}
use Rattle.std.specs.List.{Contains}
use Rattle.std.proofs.lemmas.Bool.{false≢true, false_from_ne_true, and_parts, and_from, or_cases, or_left, or_right}
use Rattle.cascade_laws.proofs.ForCallers.{some-same}
use Rattle.css_model.proofs.ForCallers.{decl_decides}
use Rattle.css_model.specs.Cascade.Order.{Pair, HasPair, IsBefore}
use Rattle.css_model.specs.declared.sheet.Decl.{Decl}
use Rattle.css_model.specs.declared.sheet.DeclItem.{DeclItem}
use Rattle.css_model.specs.declared.sheet.Item.{Item}
use Rattle.css_model.specs.declared.sheet.Item.TheVariants.{Rule, KeptRule, KeptBlock}
use Rattle.css_model.specs.Sheets.KeptItems.{is_kept}
use Rattle.css_model.specs.Sheets.RuleParts.{RuleParts}
use Rattle.list_facts.proofs.Members.{Contains-here, Contains-there}
use Rattle.order_laws.proofs.ForCallers.{InRule, decls, DeclBefore, before_rule, has_append, has_decl_is, has_rule, has_selector_is}
use Rattle.order_laws.specs.Members.{same_decl, has_selector, has_decl}
use Rattle.window_order.specs.Standing.{decl_before, is_in_item, is_in_rule, rule_before, stands}

-- ---- In a rule

pub in_rule_is : (r : RuleParts) (p : Pair) → (is_in_rule r p ≡ true) ↔ InRule r p
in_rule_is r p = (
  λ h. let w : (has_decl r.decls p.decl ≡ true) × (has_selector r.selectors p.selector ≡ true) = and_parts (has_decl r.decls p.decl) (has_selector r.selectors p.selector) h in ((has_selector_is r.selectors p.selector).0 w.1, (has_decl_is r.decls p.decl).0 w.0),
  λ h. and_from (has_decl r.decls p.decl) (has_selector r.selectors p.selector) ((has_decl_is r.decls p.decl).1 h.1) ((has_selector_is r.selectors p.selector).1 h.0),
)

pub kept_rule_has : (item : Item) (p : Pair) → ((r : RuleParts) → item ≡ Rule r → ⊥) → HasPair (item ∷ []) p → ⊥
kept_rule_has item p none h = which h.0.item h.1.rule_at
  where
    which : (n : ℕ) → slice_get (item ∷ []) n ≡ Some (Rule h.1.rule) → ⊥
    which zero at = none h.1.rule (some-same at)
    which (suc n) at = let e : None ≡ Some (Rule h.1.rule) = at in cc

pub in_item_is : (p : Pair) (item : Item) → (is_in_item p item ≡ true) ↔ HasPair (item ∷ []) p
in_item_is p (Rule r) = (λ h. (has_rule r p).1 ((in_rule_is r p).0 h), λ h. (in_rule_is r p).1 ((has_rule r p).0 h))
in_item_is p (KeptRule k) = (λ h. absurd (false≢true h), λ h. absurd (kept_rule_has (KeptRule k) p (λ r e. cc) h))
in_item_is p (KeptBlock k) = (λ h. absurd (false≢true h), λ h. absurd (kept_rule_has (KeptBlock k) p (λ r e. cc) h))

-- ---- In items

nowhere : (p : Pair) → HasPair [] p → ⊥
nowhere p h = let e : None ≡ Some (Rule h.1.rule) = h.1.rule_at in cc

pub stands_is : (items : List Item) (p : Pair) → (stands items p ≡ true) ↔ HasPair items p
stands_is [] p = (λ h. absurd (false≢true h), λ h. absurd (nowhere p h))
stands_is (item ∷ items) p =
    let ih : (stands items p ≡ true) ↔ HasPair items p = stands_is items p in
    (λ h. (has_append (item ∷ []) items p).1 (there ih (or_cases (is_in_item p item) (stands items p) h)), λ h. back ih ((has_append (item ∷ []) items p).0 h))
  where
    there : (stands items p ≡ true) ↔ HasPair items p → (is_in_item p item ≡ true) ⊎ (stands items p ≡ true) → HasPair (item ∷ []) p ⊎ HasPair items p
    there ih (inl e) = inl ((in_item_is p item).0 e)
    there ih (inr e) = inr (ih.0 e)

    back : (stands items p ≡ true) ↔ HasPair items p → HasPair (item ∷ []) p ⊎ HasPair items p → (is_in_item p item || stands items p) ≡ true
    back ih (inl h) = or_left (is_in_item p item) (stands items p) ((in_item_is p item).1 h)
    back ih (inr h) = or_right (is_in_item p item) (stands items p) (ih.1 h)

-- ---- Order in a rule

-- the first of two stands in the list
first_has : (xs : List Decl) (d f : Decl) → DeclBefore xs d f → Contains xs d
first_has [] d f h = absurd h
first_has (x ∷ xs) d f (inl h) = Contains-there x xs d (first_has xs d f h)
first_has (x ∷ xs) d f (inr h) = subst (λ (z : Decl). Contains (x ∷ xs) z) h.0 (Contains-here x xs)

-- a test whether a pair stands in some items tells what the one that computes does
pub test_is : (items : List Item) (p : Pair) (b : Bool) → (b ≡ true) ↔ HasPair items p → b ≡ stands items p
test_is items p true h = sym ((stands_is items p).1 (h.0 refl))
test_is items p false h = sym (false_from_ne_true (stands items p) (λ e. false≢true (h.1 ((stands_is items p).0 e))))

pub decl_before_is : (ds : List DeclItem) (d f : Decl) → (decl_before ds d f ≡ true) ↔ DeclBefore (decls ds) d f
decl_before_is [] d f = (λ h. absurd (false≢true h), λ h. absurd h)
decl_before_is (x ∷ ds) d f = which (same_decl x.decl d) (has_decl ds d) refl refl (decl_before_is ds d f)
  where
    which : (a b : Bool) → same_decl x.decl d ≡ a → has_decl ds d ≡ b → ((decl_before ds d f ≡ true) ↔ DeclBefore (decls ds) d f) → ((if a && not b then has_decl ds f else decl_before ds d f) ≡ true) ↔ (DeclBefore (decls ds) d f ⊎ ((x.decl ≡ d) × (Contains (decls ds) d → ⊥) × Contains (decls ds) f))
    which false b e g ih = (λ h. inl (ih.0 h), back)
      where
        back : DeclBefore (decls ds) d f ⊎ ((x.decl ≡ d) × (Contains (decls ds) d → ⊥) × Contains (decls ds) f) → decl_before ds d f ≡ true
        back (inl h) = ih.1 h
        back (inr h) = absurd (false≢true (sym e ∙ (decl_decides x.decl d).1 h.0))
    which true true e g ih = (λ h. inl (ih.0 h), back)
      where
        back : DeclBefore (decls ds) d f ⊎ ((x.decl ≡ d) × (Contains (decls ds) d → ⊥) × Contains (decls ds) f) → decl_before ds d f ≡ true
        back (inl h) = ih.1 h
        back (inr h) = absurd (h.1 ((has_decl_is ds d).0 g))
    which true false e g ih = (λ h. inr ((decl_decides x.decl d).0 e, none, (has_decl_is ds f).0 h), back)
      where
        none : Contains (decls ds) d → ⊥
        none h = false≢true (sym g ∙ (has_decl_is ds d).1 h)

        back : DeclBefore (decls ds) d f ⊎ ((x.decl ≡ d) × (Contains (decls ds) d → ⊥) × Contains (decls ds) f) → has_decl ds f ≡ true
        back (inl h) = absurd (none (first_has (decls ds) d f h))
        back (inr h) = (has_decl_is ds f).1 h.2

-- ---- Order in an item

pub rule_before_is : (r : RuleParts) (p q : Pair) → (rule_before r p q ≡ true) ↔ IsBefore (Rule r ∷ []) p q
rule_before_is r p q = (
  λ h. (before_rule r p q).1 (there h),
  λ h. let w : InRule r p × InRule r q × DeclBefore (decls r.decls) p.decl q.decl = (before_rule r p q).0 h in
      and_from (is_in_rule r p) (is_in_rule r q && decl_before r.decls p.decl q.decl) ((in_rule_is r p).1 w.0)
      (and_from (is_in_rule r q) (decl_before r.decls p.decl q.decl) ((in_rule_is r q).1 w.1) ((decl_before_is r.decls p.decl q.decl).1 w.2)),
)
  where
    there : rule_before r p q ≡ true → InRule r p × InRule r q × DeclBefore (decls r.decls) p.decl q.decl
    there h =
        let w : (is_in_rule r p ≡ true) × ((is_in_rule r q && decl_before r.decls p.decl q.decl) ≡ true) = and_parts (is_in_rule r p) (is_in_rule r q && decl_before r.decls p.decl q.decl) h in
        let v : (is_in_rule r q ≡ true) × (decl_before r.decls p.decl q.decl ≡ true) = and_parts (is_in_rule r q) (decl_before r.decls p.decl q.decl) w.1 in
        ((in_rule_is r p).0 w.0, (in_rule_is r q).0 v.0, (decl_before_is r.decls p.decl q.decl).0 v.1)

-- where both pairs stand
pub before_there : (item : Item) (r : RuleParts) (p q : Pair) (b : Bool) → item ≡ Rule r → HasPair (item ∷ []) p → HasPair (item ∷ []) q → b ≡ decl_before r.decls p.decl q.decl → (b ≡ true) ↔ IsBefore (item ∷ []) p q
before_there item r p q b item_is first second is = subst (λ (x : Item). (b ≡ true) ↔ IsBefore (x ∷ []) p q) (sym item_is) (
  λ e. (rule_before_is r p q).0 (whole ∙ sym is ∙ e),
  λ h. is ∙ sym whole ∙ (rule_before_is r p q).1 h,
)
  where
    has : (x : Pair) → HasPair (item ∷ []) x → is_in_rule r x ≡ true
    has x h = (in_rule_is r x).1 ((has_rule r x).0 (subst (λ (y : Item). HasPair (y ∷ []) x) item_is h))

    passed : (a c d : Bool) → a ≡ true → c ≡ true → (a && (c && d)) ≡ d
    passed true true d e f = refl
    passed true false d e f = absurd (false≢true f)
    passed false c d e f = absurd (false≢true e)

    whole : rule_before r p q ≡ decl_before r.decls p.decl q.decl
    whole = passed (is_in_rule r p) (is_in_rule r q) (decl_before r.decls p.decl q.decl) (has p first) (has q second)

-- ---- A kept item

no_rule : (item : Item) → is_kept item ≡ true → (r : RuleParts) → item ≡ Rule r → ⊥
no_rule (Rule q) kept r e = false≢true kept
no_rule (KeptRule k) kept r e = let f = e in cc
no_rule (KeptBlock k) kept r e = let f = e in cc

pub kept_has_none : (item : Item) (p : Pair) → is_kept item ≡ true → HasPair (item ∷ []) p → ⊥
kept_has_none item p kept h = kept_rule_has item p (no_rule item kept) h
