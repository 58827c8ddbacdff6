-- The selectors of a rule put one by one into a table: of equal ones the first stays.
use Rattle.std.proofs.Common.{◌≡◌, ℕ, suc, Bool, true, false, not, List, [], ◌∷◌, ◌++◌, length, refl, sym, ap, ◌∙◌, arith}
use Rattle.std.specs.Prelude.{◌&&◌, ◌||◌, if◌then◌else◌}
use Rattle.std.specs.List.{filter, list_any}
use Rattle.std.proofs.lemmas.List.{append-nil, append_assoc}
use Rattle.css_model.proofs.ForCallers.{selector_decides}
use Rattle.css_model.specs.declared.sheet.SelItem.{SelItem}
use Rattle.css_model.specs.Documents.SelectorParts.{SelectorParts}
use Rattle.indexmap.specs.IndexSet.{insert_key, insert_all}
use Rattle.order_laws.specs.Members.{same_selector}
use Rattle.order_laws.specs.Places.{first_selectors}
use Rattle.sheet_order.proofs.Lists.{same_test, any_append, filter_both, filter_all}

abbrev pub numbered : ℕ → List SelItem → List (ℕ × SelectorParts)
numbered n [] = []
numbered n (s ∷ selectors) = (n, s.selector) ∷ numbered (suc n) selectors

-- selectors with others behind them, each unless it is there
abbrev pub with_selectors : List (ℕ × SelectorParts) → List (ℕ × SelectorParts) → List (ℕ × SelectorParts)
with_selectors keys more = insert_all (λ s t. same_selector t.1 s.1) keys more

abbrev is_new : List (ℕ × SelectorParts) → ℕ × SelectorParts → Bool
is_new keys t = not (list_any (λ k. same_selector k.1 t.1) keys)

abbrev differs : SelItem → ℕ × SelectorParts → Bool
differs s t = not (same_selector t.1 s.selector)

same_back : (a b : SelectorParts) → same_selector a b ≡ same_selector b a
same_back a b = same_test (same_selector a b) (same_selector b a)
    (λ e. (selector_decides b a).1 (sym ((selector_decides a b).0 e)))
    (λ e. (selector_decides a b).1 (sym ((selector_decides b a).0 e)))

-- one more key
new_behind : (keys : List (ℕ × SelectorParts)) (n : ℕ) (s : SelItem) (t : ℕ × SelectorParts) → is_new (keys ++ (n, s.selector) ∷ []) t ≡ (differs s t && is_new keys t)
new_behind keys n s t =
    ap not (any_append (λ k. same_selector k.1 t.1) keys ((n, s.selector) ∷ []) ∙ ap (λ (b : Bool). list_any (λ k. same_selector k.1 t.1) keys || (b || false)) (same_back s.selector t.1))
    ∙ turned (list_any (λ k. same_selector k.1 t.1) keys) (same_selector t.1 s.selector)
  where
    turned : (a b : Bool) → not (a || (b || false)) ≡ (not b && not a)
    turned true true = refl
    turned true false = refl
    turned false true = refl
    turned false false = refl

-- where a selector is among the keys, what is not among them differs from it
new_differs : (keys : List (ℕ × SelectorParts)) (s : SelItem) → list_any (λ k. same_selector k.1 s.selector) keys ≡ true →
    (t : ℕ × SelectorParts) → is_new keys t ≡ (differs s t && is_new keys t)
new_differs keys s there t = which (same_selector t.1 s.selector) (is_new keys t)
    (λ e. ap not (ap (λ (x : SelectorParts). list_any (λ k. same_selector k.1 x) keys) ((selector_decides t.1 s.selector).0 e) ∙ there))
  where
    which : (a b : Bool) → (a ≡ true → b ≡ false) → b ≡ (not a && b)
    which true b h = h refl
    which false b h = refl

all_put : (keys : List (ℕ × SelectorParts)) (n : ℕ) (selectors : List SelItem) → with_selectors keys (numbered n selectors) ≡ keys ++ filter (is_new keys) (first_selectors n selectors)
all_put keys n [] = sym (append-nil keys)
all_put keys n (s ∷ selectors) = all_put (insert_key (λ x y. same_selector y.1 x.1) keys (n, s.selector)) (suc n) selectors ∙ which (list_any (λ k. same_selector k.1 s.selector) keys) refl
  where
    all : List (ℕ × SelectorParts)
    all = first_selectors (suc n) selectors

    which : (b : Bool) → list_any (λ k. same_selector k.1 s.selector) keys ≡ b →
        (if b then keys else keys ++ (n, s.selector) ∷ []) ++ filter (is_new (if b then keys else keys ++ (n, s.selector) ∷ [])) all
        ≡ keys ++ (if not b then (n, s.selector) ∷ filter (is_new keys) (filter (differs s) all) else filter (is_new keys) (filter (differs s) all))
    which true e = ap (λ ys. keys ++ ys) (sym (filter_both (is_new keys) (differs s) (is_new keys) (new_differs keys s e) all))
    which false e = append_assoc keys ((n, s.selector) ∷ []) (filter (is_new (keys ++ (n, s.selector) ∷ [])) all)
        ∙ ap (λ ys. keys ++ (n, s.selector) ∷ ys) (sym (filter_both (is_new keys) (differs s) (is_new (keys ++ (n, s.selector) ∷ [])) (new_behind keys n s) all))

each_first : (selectors : List SelItem) → with_selectors [] (numbered 0 selectors) ≡ first_selectors 0 selectors
each_first selectors = all_put [] 0 selectors ∙ filter_all (is_new []) (λ t. refl) (first_selectors 0 selectors)

-- behind the last one all are there
pub firsts_at_last : (keys : List (ℕ × SelectorParts)) (n : ℕ) (rest selectors : List SelItem) → length rest ≡ 0 →
    with_selectors keys (numbered n rest) ≡ with_selectors [] (numbered 0 selectors) → keys ≡ first_selectors 0 selectors
firsts_at_last keys n [] selectors end is = is ∙ each_first selectors
firsts_at_last keys n (s ∷ rest) selectors end is = absurd (omega (arith, end))
