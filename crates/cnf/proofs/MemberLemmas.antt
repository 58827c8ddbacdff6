-- Lemmas on which literals stand in a list.
use Rattle.std.proofs.Common.{◌≡◌, ◌%◌, ◌⊎◌, ℕ, Bool, IsTrue, zero, suc, Option, None, Some, List, [], ◌∷◌, ◌++◌, map, refl, sym, ap, subst, ◌∙◌, inl, inr, arith}
use Rattle.std.specs.List.{list_all, list_any, slice_get}
use Rattle.std.proofs.lemmas.Bool.{and_parts, and_from, or_cases, or_left, or_right, eqb-true, eq-eqb, false≢true}
use Rattle.cnf.specs.declared.lit.Lit.{Lit}
use Rattle.cnf.specs.Lits.{negation, same, is_among}
use Rattle.cnf.proofs.LitLemmas.{parity, negation-even, negation-odd, number-eq}

pub same-eq : (a b : Lit) → IsTrue (same a b) → a ≡ b
same-eq a b h = number-eq a b (eqb-true a.0 b.0 h)

pub same-refl : (a : Lit) → IsTrue (same a a)
same-refl a = eq-eqb a.0 a.0 refl

pub same-from_eq : (a b : Lit) → a ≡ b → IsTrue (same a b)
same-from_eq a b e = eq-eqb a.0 b.0 (ap (λ (l : Lit). l.0) e)

-- a test that passes at a literal that stands there
pub any-among : (p : Lit → Bool) (ls : List Lit) (x : Lit) → IsTrue (is_among ls x) → IsTrue (p x) → IsTrue (list_any p ls)
any-among p [] x m h = absurd (false≢true m)
any-among p (y ∷ ys) x m h =
    elim (or_cases (same x y) (is_among ys x) m) [
      | inl e ↦ let P : Lit → Type 0 = λ z. IsTrue (p z) in or_left (p y) (list_any p ys) (subst P (same-eq x y e) h)
      | inr e ↦ or_right (p y) (list_any p ys) (any-among p ys x e h)
    ]

pub any-witness : (p : Lit → Bool) (ls : List Lit) → IsTrue (list_any p ls) → (x : Lit) × IsTrue (is_among ls x) × IsTrue (p x)
any-witness p [] h = absurd (false≢true h)
any-witness p (y ∷ ys) h =
    elim (or_cases (p y) (list_any p ys) h) [
      | inl e ↦ (y, or_left (same y y) (is_among ys y) (same-refl y), e)
      | inr e ↦ let w = any-witness p ys e in (w.0, or_right (same w.0 y) (is_among ys w.0) w.1, w.2)
    ]

pub all-among : (p : Lit → Bool) (ls : List Lit) (x : Lit) → IsTrue (list_all p ls) → IsTrue (is_among ls x) → IsTrue (p x)
all-among p [] x h m = absurd (false≢true m)
all-among p (y ∷ ys) x h m =
    let parts = and_parts (p y) (list_all p ys) h in
    elim (or_cases (same x y) (is_among ys x) m) [
      | inl e ↦ let P : Lit → Type 0 = λ z. IsTrue (p z) in subst P (sym (same-eq x y e)) parts.0
      | inr e ↦ all-among p ys x parts.1 e
    ]

pub all-from : (p : Lit → Bool) (ls : List Lit) → ((x : Lit) → IsTrue (is_among ls x) → IsTrue (p x)) → IsTrue (list_all p ls)
all-from p [] f = refl
all-from p (y ∷ ys) f =
    and_from (p y) (list_all p ys) (f y (or_left (same y y) (is_among ys y) (same-refl y))) (all-from p ys (λ x m. f x (or_right (same x y) (is_among ys x) m)))

-- the same of clauses, by their places
pub any-at : {X : Type 0} (p : X → Bool) (xs : List X) (k : ℕ) (x : X) → slice_get xs k ≡ Some x → IsTrue (p x) → IsTrue (list_any p xs)
any-at p [] k x e h = absurd (none_some _ refl e)
  where
    none_some : {X : Type 0} {x : X} (o : Option X) → o ≡ None → o ≡ Some x → ⊥
    none_some o n e = cc
any-at {X = X} p (y ∷ ys) zero x e h = or_left (p y) (list_any p ys) (let P : X → Type 0 = λ z. IsTrue (p z) in subst P (sym (in_some e)) h)
  where
    in_some : {X : Type 0} {x y : X} → Some x ≡ Some y → x ≡ y
    in_some e = cc
any-at p (y ∷ ys) (suc k) x e h = or_right (p y) (list_any p ys) (any-at p ys k x e h)

pub any-mono : {X : Type 0} (p q : X → Bool) → ((x : X) → IsTrue (p x) → IsTrue (q x)) → (xs : List X) → IsTrue (list_any p xs) → IsTrue (list_any q xs)
any-mono p q f [] h = absurd (false≢true h)
any-mono p q f (x ∷ xs) h =
    elim (or_cases (p x) (list_any p xs) h) [
      | inl e ↦ or_left (q x) (list_any q xs) (f x e)
      | inr e ↦ or_right (q x) (list_any q xs) (any-mono p q f xs e)
    ]

-- negations
pub negation-twice : (l : Lit) → negation (negation l) ≡ l
negation-twice l =
    elim (parity l.0) [
      | inl e ↦
          let h = negation-even l e in
          let odd : (negation l).0 % 2 ≡ 1 = omega arith in
          let k = negation-odd (negation l) odd in
          number-eq (negation (negation l)) l (omega arith)
      | inr e ↦
          let h = negation-odd l e in
          let even : (negation l).0 % 2 ≡ 0 = omega arith in
          let k = negation-even (negation l) even in
          number-eq (negation (negation l)) l (omega arith)
    ]

pub negation-apart : (l : Lit) → negation l ≡ l → ⊥
negation-apart l h =
    elim (parity l.0) [
      | inl e ↦ let k = negation-even l e in let n = ap (λ (l : Lit). l.0) h in omega arith
      | inr e ↦ let k = negation-odd l e in let n = ap (λ (l : Lit). l.0) h in omega arith
    ]

pub among-negations : (ls : List Lit) (l : Lit) → IsTrue (is_among ls (negation l)) → IsTrue (is_among (map negation ls) l)
among-negations [] l m = absurd (false≢true m)
among-negations (x ∷ xs) l m =
    elim (or_cases (same (negation l) x) (is_among xs (negation l)) m) [
      | inl e ↦ or_left (same l (negation x)) (is_among (map negation xs) l) (same-from_eq l (negation x) (sym (negation-twice l) ∙ ap negation (same-eq (negation l) x e)))
      | inr e ↦ or_right (same l (negation x)) (is_among (map negation xs) l) (among-negations xs l e)
    ]

pub negations-among : (ls : List Lit) (l : Lit) → IsTrue (is_among (map negation ls) l) → IsTrue (is_among ls (negation l))
negations-among [] l m = absurd (false≢true m)
negations-among (x ∷ xs) l m =
    elim (or_cases (same l (negation x)) (is_among (map negation xs) l) m) [
      | inl e ↦ or_left (same (negation l) x) (is_among xs (negation l)) (same-from_eq (negation l) x (ap negation (same-eq l (negation x) e) ∙ negation-twice x))
      | inr e ↦ or_right (same (negation l) x) (is_among xs (negation l)) (negations-among xs l e)
    ]

pub among-append_left : (xs ys : List Lit) (l : Lit) → IsTrue (is_among xs l) → IsTrue (is_among (xs ++ ys) l)
among-append_left [] ys l m = absurd (false≢true m)
among-append_left (x ∷ xs) ys l m =
    elim (or_cases (same l x) (is_among xs l) m) [
      | inl e ↦ or_left (same l x) (is_among (xs ++ ys) l) e
      | inr e ↦ or_right (same l x) (is_among (xs ++ ys) l) (among-append_left xs ys l e)
    ]

pub among-append_right : (xs ys : List Lit) (l : Lit) → IsTrue (is_among ys l) → IsTrue (is_among (xs ++ ys) l)
among-append_right [] ys l m = m
among-append_right (x ∷ xs) ys l m = or_right (same l x) (is_among (xs ++ ys) l) (among-append_right xs ys l m)

pub among-append_cases : (xs ys : List Lit) (l : Lit) → IsTrue (is_among (xs ++ ys) l) → IsTrue (is_among xs l) ⊎ IsTrue (is_among ys l)
among-append_cases [] ys l m = inr m
among-append_cases (x ∷ xs) ys l m =
    elim (or_cases (same l x) (is_among (xs ++ ys) l) m) [
      | inl e ↦ inl (or_left (same l x) (is_among xs l) e)
      | inr e ↦
          elim (among-append_cases xs ys l e) [
            | inl a ↦ inl (or_right (same l x) (is_among xs l) a)
            | inr a ↦ inr a
          ]
    ]
