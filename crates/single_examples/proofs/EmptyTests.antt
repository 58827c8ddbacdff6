-- `:empty` and its negation, in simple selectors together.
use Rattle.std.proofs.Common.{◌≡◌, ◌↔◌, ℕ, zero, suc, ◌<◌, Bool, true, false, not, ◌&&◌, ◌||◌, ◌++◌, List, [], ◌∷◌, refl, sym, ap, subst, ◌∙◌, true≢false, arith, length}
use Rattle.std.specs.Prelude.{Contains}
use Rattle.std.specs.List.{list_any}
use Rattle.std.proofs.lemmas.List.Elements.{Contains-append_right, Contains-get_or}
use Rattle.css_model.specs.declared.selector.Simple.{Simple}
use Rattle.shape_laws.specs.Document.SlotElements.{asks_for_content}
use Rattle.element_laws.proofs.ForCallers.{any_some}
use Rattle.slot_plan.specs.ValidShape.{EmptyFits, is_empty_test}
use Rattle.single_examples.specs.Trying.{asks_for_none}

any_append : {X : Type 0} (p : X → Bool) (xs ys : List X) → list_any p (xs ++ ys) ≡ (list_any p xs || list_any p ys)
any_append p [] ys = refl
any_append p (x ∷ xs) ys = ap (λ b. p x || b) (any_append p xs ys) ∙ or_assoc (p x) (list_any p xs) (list_any p ys)
  where
    or_assoc : (a b c : Bool) → (a || (b || c)) ≡ ((a || b) || c)
    or_assoc true b c = refl
    or_assoc false b c = refl

pub content_joined : (x y : List Simple) → asks_for_content (x ++ y) ≡ (asks_for_content x || asks_for_content y)
content_joined x y = any_append (λ s. s.negated && is_empty_test s.test) x y

pub none_joined : (x y : List Simple) → asks_for_none (x ++ y) ≡ (asks_for_none x || asks_for_none y)
none_joined x y = any_append (λ s. not s.negated && is_empty_test s.test) x y

any_there : {X : Type 0} (p : X → Bool) (xs : List X) (x : X) → Contains xs x → p x ≡ true → list_any p xs ≡ true
any_there p [] x (k, l, e) h = absurd (omega arith)
any_there p (y ∷ ys) x (zero, l, e) h = ap (λ b. b || list_any p ys) (ap p e ∙ h)
any_there p (y ∷ ys) x (suc k, l, e) h = or_second (p y) (list_any p ys) (any_there p ys x (k, omega arith, e) h)
  where
    or_second : (a b : Bool) → b ≡ true → (a || b) ≡ true
    or_second true b f = refl
    or_second false b f = f

and_both : (a b : Bool) → (a && b) ≡ true → (a ≡ true) × (b ≡ true)
and_both true b h = (refl, h)
and_both false b h = absurd (true≢false (sym h))

and_of : (a b : Bool) → a ≡ true → b ≡ true → (a && b) ≡ true
and_of true b e f = f
and_of false b e f = absurd (true≢false (sym e))

not_true : (a : Bool) → not a ≡ true → a ≡ false
not_true true h = absurd (true≢false (sym h))
not_true false h = refl

not_of : (a : Bool) → a ≡ false → not a ≡ true
not_of true e = absurd (true≢false e)
not_of false e = refl

-- where both are asked for, they do not fit
pub clash : (simples : List Simple) → asks_for_none simples ≡ true → asks_for_content simples ≡ true → EmptyFits false simples → ⊥
clash simples h k fits =
    let (s, c, e) = any_some (λ s. not s.negated && is_empty_test s.test) simples h in
    let (t, d, f) = any_some (λ s. s.negated && is_empty_test s.test) simples k in
    let asked = and_both (not s.negated) (is_empty_test s.test) e in
    let refused = and_both t.negated (is_empty_test t.test) f in
    true≢false (sym refused.0 ∙ (fits s c asked.1 (not_true s.negated asked.0)).1 t d refused.1)

-- and else they do
pub no_clash : (simples : List Simple) → (asks_for_none simples ≡ true → asks_for_content simples ≡ true → ⊥) → EmptyFits false simples
no_clash simples apart s c is asked =
    (refl, λ t d is'. by t d is' t.negated refl)
  where
    by : (t : Simple) → Contains simples t → is_empty_test t.test ≡ true → (b : Bool) → t.negated ≡ b → t.negated ≡ false
    by t d is' false e = e
    by t d is' true e =
        absurd (apart (any_there (λ s. not s.negated && is_empty_test s.test) simples s c (and_of (not s.negated) (is_empty_test s.test) (not_of s.negated asked) is))
        (any_there (λ s. s.negated && is_empty_test s.test) simples t d (and_of t.negated (is_empty_test t.test) e is')))

-- as a test
pub empties_decided : (simples : List Simple) (none content : Bool) → none ≡ asks_for_none simples → content ≡ asks_for_content simples → not (none && content) ≡ true ↔ EmptyFits false simples
empties_decided simples true true e f = (λ h. absurd (true≢false (sym h)), λ fits. absurd (clash simples (sym e) (sym f) fits))
empties_decided simples true false e f = (λ h. no_clash simples (λ g k. true≢false (sym (f ∙ k))), λ fits. refl)
empties_decided simples false content e f = (λ h. no_clash simples (λ g k. true≢false (sym (e ∙ g))), λ fits. refl)
