-- How the value that is candidate is put together, step by step.
use Rattle.std.proofs.Common.{◌≡◌, ◌⊎◌, ℕ, ◌<◌, ◌≤◌, Bool, true, false, not, ◌&&◌, ◌||◌, cond, List, [], ◌∷◌, ◌++◌, length, refl, sym, ap, subst, ◌∙◌, inl, inr, arith, append_assoc}
use Rattle.std.specs.Prelude.{nat_le}
use Rattle.std.specs.List.{filter, list_any}
use Rattle.std.specs.Cmp.Lexicographic.{bytes_decides}
use Rattle.std.proofs.lemmas.List.{append-nil}
use Rattle.std.proofs.lemmas.List.Folds.{list_any-append}
use Rattle.std.proofs.lemmas.Bool.{false≢true, le-leb}
use Rattle.std.proofs.lemmas.Bool.Decides.{leb_tells}
use Rattle.css_model.specs.Lists.{same_text}
use Rattle.attr_values.specs.Value.{once, longer, followed, words_then, spaced, kept_of, more_words}

filter_both : (p q r : List ℕ → Bool) → ((y : List ℕ) → p y ≡ (q y && r y)) → (ys : List (List ℕ)) → filter p ys ≡ filter q (filter r ys)
filter_both p q r h [] = refl
filter_both p q r h (y ∷ ys) =
    subst (λ (b : Bool). cond b (y ∷ filter p ys) (filter p ys) ≡ filter q (cond (r y) (y ∷ filter r ys) (filter r ys))) (sym (h y)) (cases (r y) (filter_both p q r h ys))
  where
    both : (c : Bool) → filter p ys ≡ filter q (filter r ys) → cond (c && true) (y ∷ filter p ys) (filter p ys) ≡ cond c (y ∷ filter q (filter r ys)) (filter q (filter r ys))
    both true rest = ap (λ (zs : List (List ℕ)). y ∷ zs) rest
    both false rest = rest

    one : (c : Bool) → filter p ys ≡ filter q (filter r ys) → cond (c && false) (y ∷ filter p ys) (filter p ys) ≡ filter q (filter r ys)
    one true rest = rest
    one false rest = rest

    cases : (b : Bool) → filter p ys ≡ filter q (filter r ys) → cond (q y && b) (y ∷ filter p ys) (filter p ys) ≡ filter q (cond b (y ∷ filter r ys) (filter r ys))
    cases true rest = both (q y) rest
    cases false rest = one (q y) rest

filter_each : (p : List ℕ → Bool) → ((y : List ℕ) → p y ≡ true) → (ys : List (List ℕ)) → filter p ys ≡ ys
filter_each p h [] = refl
filter_each p h (y ∷ ys) = subst (λ (b : Bool). cond b (y ∷ filter p ys) (filter p ys) ≡ y ∷ ys) (sym (h y)) (ap (λ (zs : List (List ℕ)). y ∷ zs) (filter_each p h ys))

is_same : (a b : Bool) → (a ≡ true → b ≡ true) → (b ≡ true → a ≡ true) → a ≡ b
is_same true b f g = sym (f refl)
is_same false true f g = g refl
is_same false false f g = refl

same_back : (x y : List ℕ) → same_text x y ≡ same_text y x
same_back x y =
    is_same (same_text x y) (same_text y x)
    (λ e. (bytes_decides y x).1 (sym ((bytes_decides x y).0 e)))
    (λ e. (bytes_decides x y).1 (sym ((bytes_decides y x).0 e)))

absorbs : (kept : List (List ℕ)) (x : List ℕ) → list_any (λ k. same_text k x) kept ≡ true → (y : List ℕ) →
    not (list_any (λ k. same_text k y) kept) ≡ (not (list_any (λ k. same_text k y) kept) && not (same_text y x))
absorbs kept x is y = cases (same_text y x) refl
  where
    plain : (q : Bool) → q ≡ (q && true)
    plain true = refl
    plain false = refl

    none : (q : Bool) → q ≡ true → not q ≡ (not q && false)
    none true e = refl
    none false e = absurd (false≢true e)

    cases : (b : Bool) → same_text y x ≡ b → not (list_any (λ k. same_text k y) kept) ≡ (not (list_any (λ k. same_text k y) kept) && not b)
    cases true e = none (list_any (λ k. same_text k y) kept) (subst (λ (z : List ℕ). list_any (λ k. same_text k z) kept ≡ true) (sym ((bytes_decides y x).0 e)) is)
    cases false e = plain (not (list_any (λ k. same_text k y) kept))

splits : (kept : List (List ℕ)) (x y : List ℕ) →
    not (list_any (λ k. same_text k y) (kept ++ x ∷ [])) ≡ (not (list_any (λ k. same_text k y) kept) && not (same_text y x))
splits kept x y =
    ap not (list_any-append (λ k. same_text k y) kept (x ∷ [])) ∙
    subst (λ (b : Bool). not (list_any (λ k. same_text k y) kept || (b || false)) ≡ (not (list_any (λ k. same_text k y) kept) && not (same_text y x))) (same_back y x) (cases (list_any (λ k. same_text k y) kept) (same_text y x))
  where
    cases : (a b : Bool) → not (a || (b || false)) ≡ (not a && not b)
    cases true true = refl
    cases true false = refl
    cases false true = refl
    cases false false = refl

kept_are : (kept xs : List (List ℕ)) → kept_of kept xs ≡ kept ++ filter (λ y. not (list_any (λ k. same_text k y) kept)) (once xs)
kept_are kept [] = sym (append-nil kept)
kept_are kept (x ∷ xs) = cases (list_any (λ y. same_text y x) kept) refl (kept_are kept xs) (kept_are (kept ++ x ∷ []) xs)
  where
    cases : (b : Bool) → list_any (λ y. same_text y x) kept ≡ b →
        kept_of kept xs ≡ kept ++ filter (λ y. not (list_any (λ k. same_text k y) kept)) (once xs) →
        kept_of (kept ++ x ∷ []) xs ≡ (kept ++ x ∷ []) ++ filter (λ y. not (list_any (λ k. same_text k y) (kept ++ x ∷ []))) (once xs) →
        kept_of (cond b kept (kept ++ x ∷ [])) xs ≡
        kept ++ cond (not b) (x ∷ filter (λ y. not (list_any (λ k. same_text k y) kept)) (filter (λ y. not (same_text y x)) (once xs))) (filter (λ y. not (list_any (λ k. same_text k y) kept)) (filter (λ y. not (same_text y x)) (once xs)))
    cases true is here there =
        here ∙ ap (λ (zs : List (List ℕ)). kept ++ zs)
        (filter_both (λ y. not (list_any (λ k. same_text k y) kept)) (λ y. not (list_any (λ k. same_text k y) kept)) (λ y. not (same_text y x)) (absorbs kept x is) (once xs))
    cases false is here there =
        there ∙ append_assoc kept (x ∷ []) (filter (λ y. not (list_any (λ k. same_text k y) (kept ++ x ∷ []))) (once xs)) ∙ ap (λ (zs : List (List ℕ)). kept ++ x ∷ zs)
        (filter_both (λ y. not (list_any (λ k. same_text k y) (kept ++ x ∷ []))) (λ y. not (list_any (λ k. same_text k y) kept)) (λ y. not (same_text y x)) (splits kept x) (once xs))

pub kept_once : (xs : List (List ℕ)) → kept_of [] xs ≡ once xs
kept_once xs = kept_are [] xs ∙ filter_each (λ y. true) (λ y. refl) (once xs)

-- the longer of two texts
longer_left : (x y : List ℕ) → length y ≤ length x → longer x y ≡ x
longer_left x y h = ap (λ (b : Bool). cond b x y) (le-leb (length y) (length x) h)

longer_right : (x y : List ℕ) → length x < length y → longer x y ≡ y
longer_right x y h = cases (nat_le (length y) (length x)) (leb_tells (length y) (length x))
  where
    cases : (b : Bool) → ((b ≡ true) × (length y ≤ length x)) ⊎ ((b ≡ false) × (length x < length y)) → cond b x y ≡ y
    cases b (inl t) = absurd (let bad : ⊥ = over t.1 in bad)
      where
        over : length y ≤ length x → ⊥
        over le = omega arith
    cases b (inr t) = ap (λ (c : Bool). cond c x y) t.0

pub longer_none : (x : List ℕ) → longer [] x ≡ x
longer_none [] = refl
longer_none (c ∷ cs) = longer_right [] (c ∷ cs) (omega arith)

pub longer_both : (a x r : List ℕ) → longer a (longer x r) ≡ longer (longer a x) r
longer_both a x r = cases (leb_tells (length r) (length x)) (leb_tells (length x) (length a))
  where
    cases : ((nat_le (length r) (length x) ≡ true) × (length r ≤ length x)) ⊎ ((nat_le (length r) (length x) ≡ false) × (length x < length r)) →
        ((nat_le (length x) (length a) ≡ true) × (length x ≤ length a)) ⊎ ((nat_le (length x) (length a) ≡ false) × (length a < length x)) →
        longer a (longer x r) ≡ longer (longer a x) r
    cases (inl s) (inl t) =
        ap (longer a) (longer_left x r s.1) ∙ longer_left a x t.1 ∙ sym (ap (λ (z : List ℕ). longer z r) (longer_left a x t.1) ∙ longer_left a r (below s.1 t.1))
      where
        below : length r ≤ length x → length x ≤ length a → length r ≤ length a
        below h k = omega arith
    cases (inl s) (inr t) =
        ap (longer a) (longer_left x r s.1) ∙ longer_right a x t.1 ∙ sym (ap (λ (z : List ℕ). longer z r) (longer_right a x t.1) ∙ longer_left x r s.1)
    cases (inr s) (inl t) =
        ap (longer a) (longer_right x r s.1) ∙ sym (ap (λ (z : List ℕ). longer z r) (longer_left a x t.1))
    cases (inr s) (inr t) =
        ap (longer a) (longer_right x r s.1) ∙ longer_right a r (above s.1 t.1) ∙ sym (ap (λ (z : List ℕ). longer z r) (longer_right a x t.1) ∙ longer_right x r s.1)
      where
        above : length x < length r → length a < length x → length a < length r
        above h k = omega arith

-- what stands behind texts with separators
pub followed_then : (c : ℕ) (xs : List (List ℕ)) (rest : List ℕ) → followed c xs rest ≡ followed c xs [] ++ rest
followed_then c [] rest = refl
followed_then c (x ∷ xs) rest =
    ap (λ (t : List ℕ). x ++ c ∷ t) (followed_then c xs rest) ∙ sym (append_assoc x (c ∷ followed c xs []) rest)

pub words_then_then : (f w : ℕ) (xs : List (List ℕ)) (rest : List ℕ) → words_then f w xs rest ≡ words_then f w xs [] ++ rest
words_then_then f w [] rest = refl
words_then_then f w (x ∷ xs) rest =
    ap (λ (t : List ℕ). w ∷ t)
    (followed_then w (x ∷ xs) (f ∷ rest) ∙ sym (append_assoc (followed w (x ∷ xs) []) (f ∷ []) rest) ∙ ap (λ (t : List ℕ). t ++ rest) (sym (followed_then w (x ∷ xs) (f ∷ []))))

pub spaced_more : (x : List ℕ) (xs : List (List ℕ)) → spaced (x ∷ xs) ≡ x ++ more_words xs
spaced_more x [] = sym (append-nil x)
spaced_more x (y ∷ xs) = ap (λ (t : List ℕ). x ++ 0x20 ∷ t) (spaced_more y xs)

-- the value of the last rule, piece by piece
pub together : (p : List ℕ) (f w : ℕ) (parts words : List (List ℕ)) (s : List ℕ) →
    (((p ++ f ∷ []) ++ followed f parts []) ++ words_then f w words []) ++ s ≡ p ++ f ∷ followed f parts (words_then f w words s)
together p f w parts words s =
    append_assoc ((p ++ f ∷ []) ++ followed f parts []) (words_then f w words []) s ∙
    ap (λ (t : List ℕ). ((p ++ f ∷ []) ++ followed f parts []) ++ t) (sym (words_then_then f w words s)) ∙
    append_assoc (p ++ f ∷ []) (followed f parts []) (words_then f w words s) ∙
    ap (λ (t : List ℕ). (p ++ f ∷ []) ++ t) (sym (followed_then f parts (words_then f w words s))) ∙
    append_assoc p (f ∷ []) (followed f parts (words_then f w words s))
