-- Lemmas on the variables without a value.
use Rattle.std.proofs.Common.{◌≡◌, ◌≢◌, ◌+◌, ◌*◌, ◌/◌, ◌<◌, ◌≤◌, ◌⊎◌, ℕ, Bool, true, false, eqb, zero, suc, Option, None, Some, IfSome, IfNone, List, [], ◌∷◌, ◌++◌, length, take, set, get_or, refl, sym, subst, ◌∙◌, inl, inr, arith, ◌%◌, ap}
use Rattle.std.specs.List.{slice_get, IsDistinct}
use Rattle.std.proofs.lemmas.Bool.{false≢true, cases_Bool, cases_eq, cond-true, cond-false, eqb-true}
use Rattle.std.proofs.lemmas.List.{get_or-set_same, get_or-set_other}
use Rattle.std.proofs.lemmas.Option.{get_or_from_slice_get}
use Rattle.cnf.specs.Lits.{variable, positive, negation, is_among}
use Rattle.cnf.proofs.ForCallers.{negation-even}
use Rattle.std.specs.Option.{is_some}
use Rattle.std.specs.Prelude.{MatchOption}
use Rattle.sat_trail.specs.declared.entry.Entry.{Entry}
use Rattle.sat_trail.specs.Places.{place, IsPlaced}
use Rattle.sat_trail.specs.Open.{IsOpen, HasOpen}
use Rattle.sat_trail.specs.Trail.{lits, variables, value_in, entry_of}
use Rattle.sat_trail.proofs.EntryLemmas.{some≢none, open-parts}
use Rattle.sat_trail.proofs.PlaceLemmas.{entry_of-place, entry_of-none, is_some-place}

-- ---- in the heap

-- what was in is in after one more is put in
pub in-kept : (is_in : List Bool) (i v : ℕ) → i < length is_in → get_or is_in v false ≡ true → get_or (set is_in i true) v false ≡ true
in-kept is_in i v b h =
    elim (cases_eq v i) [
      | inl e ↦ let P : ℕ → Type 0 = λ x. get_or (set is_in i true) x false ≡ true in subst P (sym e) (get_or-set_same is_in i true false b)
      | inr ne ↦ get_or-set_other is_in i v true false ne ∙ h
    ]

-- and after another is taken out
pub in-other : (is_in : List Bool) (i v : ℕ) → (v ≡ i → ⊥) → get_or is_in v false ≡ true → get_or (set is_in i false) v false ≡ true
in-other is_in i v ne h = get_or-set_other is_in i v false false ne ∙ h

-- ---- the entries

-- a variable without an entry among the first ones has none at all, or one behind them
pub open-or_behind : (es : List Entry) (n v : ℕ) → entry_of (take n es) v ≡ None → (entry_of es v ≡ None) ⊎ ((k : ℕ) × (e : Entry) × (n ≤ k) × (slice_get es k ≡ Some e) × (variable e.lit ≡ v))
open-or_behind [] n v h = inl refl
open-or_behind (x ∷ xs) zero v h =
    elim (cases_Bool (eqb (variable x.lit) v)) [
      | inl t ↦ inr (0, x, omega arith, refl, eqb-true _ _ t)
      | inr t ↦ elim (open-or_behind xs zero v refl) [
        | inl e ↦ inl (cond-false (eqb (variable x.lit) v) (Some x) (entry_of xs v) t ∙ e)
        | inr w ↦ inr (suc w.0, w.1, omega arith, w.3, w.4)
      ]
    ]
open-or_behind (x ∷ xs) (suc n) v h =
    elim (cases_Bool (eqb (variable x.lit) v)) [
      | inl t ↦ absurd (some≢none (sym (cond-true (eqb (variable x.lit) v) (Some x) (entry_of (take n xs) v) t) ∙ h))
      | inr t ↦ elim (open-or_behind xs n v (sym (cond-false (eqb (variable x.lit) v) (Some x) (entry_of (take n xs) v) t) ∙ h)) [
        | inl e ↦ inl (cond-false (eqb (variable x.lit) v) (Some x) (entry_of xs v) t ∙ e)
        | inr w ↦ let low = w.2 in inr (suc w.0, w.1, omega arith, w.3, w.4)
      ]
    ]

-- a variable without an entry had none with one entry less
pub open-before : (es : List Entry) (e : Entry) (v : ℕ) → entry_of (es ++ e ∷ []) v ≡ None → entry_of es v ≡ None
open-before [] e v h = refl
open-before (x ∷ xs) e v h =
    elim (cases_Bool (eqb (variable x.lit) v)) [
      | inl t ↦ absurd (some≢none (sym (cond-true (eqb (variable x.lit) v) (Some x) (entry_of (xs ++ e ∷ []) v) t) ∙ h))
      | inr t ↦ cond-false (eqb (variable x.lit) v) (Some x) (entry_of xs v) t ∙ open-before xs e v (sym (cond-false (eqb (variable x.lit) v) (Some x) (entry_of (xs ++ e ∷ []) v) t) ∙ h)
    ]

pub has-more : (vars : ℕ) (es : List Entry) (e : Entry) (is_in : List Bool) → HasOpen vars es is_in → HasOpen vars (es ++ e ∷ []) is_in
has-more vars es e is_in h = record { table = h.table; in_heap = λ v b o. h.in_heap v b (open-before es e v o) }

pub has-fewer : (vars : ℕ) (es : List Entry) (n : ℕ) (is_in after : List Bool) → HasOpen vars es is_in → length after ≡ length is_in → ((v : ℕ) → get_or is_in v false ≡ true → get_or after v false ≡ true) → ((k : ℕ) (e : Entry) → n ≤ k → slice_get es k ≡ Some e → get_or after (variable e.lit) false ≡ true) → HasOpen vars (take n es) after
has-fewer vars es n is_in after h size kept back = record {
  table = size ∙ h.table;
  in_heap = λ v b o. elim (open-or_behind es n v o) [
    | inl e ↦ kept v (h.in_heap v b e)
    | inr w ↦ let P : ℕ → Type 0 = λ x. get_or after x false ≡ true in subst P w.4 (back w.0 w.1 w.2 w.3)
  ];
}

-- ---- the table of places

positive-number : (v : ℕ) → (positive v).0 ≡ v + v
unfolding positive
positive-number v = omega arith

negation-number : (v : ℕ) → (negation (positive v)).0 ≡ v + v + 1
negation-number v =
    let n = positive-number v in
    let even : (positive v).0 % 2 ≡ 0 = omega (arith, n) in
    let e = negation-even (positive v) even in
    omega (arith, e, n)

number-place : (es : List Entry) (places : List (Option ℕ)) (i : ℕ) → IsPlaced es places → i < length places → get_or places i None ≡ place es i
number-place es places i t b = get_or_from_slice_get places i (place es i) None (t i b)

no-place : (es : List Entry) (v i : ℕ) → IsDistinct eqb (variables es) → i / 2 ≡ v → entry_of es v ≡ None → (o : Option ℕ) → place es i ≡ o → o ≡ None
no-place es v i u b h None e = refl
no-place es v i u b h (Some k) e = let d : Entry = record { lit = record { 0 = 0 }; level = 0; reason = None } in absurd (some≢none (sym (entry_of-place es v i k d u b e).1 ∙ h))

-- a variable is open exactly where it has no entry
pub open-from_entry : (es : List Entry) (places : List (Option ℕ)) (v : ℕ) → IsDistinct eqb (variables es) → IsPlaced es places → v + v + 1 < length places → entry_of es v ≡ None → IsOpen places v
open-from_entry es places v u t b h = (
  number-place es places (v + v) t (omega arith) ∙ no-place es v (v + v) u (omega arith) h (place es (v + v)) refl,
  number-place es places (v + v + 1) t b ∙ no-place es v (v + v + 1) u (omega arith) h (place es (v + v + 1)) refl,
)

pub entry-from_open : (es : List Entry) (places : List (Option ℕ)) (v : ℕ) → IsPlaced es places → v + v + 1 < length places → IsOpen places v → entry_of es v ≡ None
entry-from_open es places v t b o =
    let twice : v + v ≡ 2 * v = omega arith in
    let P : ℕ → Type 0 = λ i. place es i ≡ None in
    let Q : ℕ → Type 0 = λ i. place es (i + 1) ≡ None in
    entry_of-none es v
    (subst P twice (sym (number-place es places (v + v) t (omega arith)) ∙ o.0))
    (subst Q twice (sym (number-place es places (v + v + 1) t b) ∙ o.1))

-- a variable is open exactly where its literals have no value
pub value-from_open : (es : List Entry) (places : List (Option ℕ)) (v : ℕ) → IsPlaced es places → v + v + 1 < length places → IsOpen places v → value_in (lits es) (positive v) ≡ None
value-from_open es places v t b o =
    let l = positive v in
    let pos : is_among (lits es) l ≡ false = sym (is_some-place es l) ∙ ap is_some (ap (place es) (positive-number v) ∙ (sym (number-place es places (v + v) t (omega arith)) ∙ o.0)) in
    let neg : is_among (lits es) (negation l) ≡ false = sym (is_some-place es (negation l)) ∙ ap is_some (ap (place es) (negation-number v) ∙ (sym (number-place es places (v + v + 1) t b) ∙ o.1)) in
    cond-false (is_among (lits es) l) _ _ pos ∙ cond-false (is_among (lits es) (negation l)) _ _ neg

pub open-from_value : (es : List Entry) (places : List (Option ℕ)) (v : ℕ) → IsPlaced es places → v + v + 1 < length places → value_in (lits es) (positive v) ≡ None → IsOpen places v
open-from_value es places v t b e =
    let l = positive v in
    let both = open-parts (lits es) l e in (
      number-place es places (v + v) t (omega arith) ∙ none (place es (v + v)) (ap (λ n. is_some (place es n)) (sym (positive-number v)) ∙ (is_some-place es l ∙ both.0)),
      number-place es places (v + v + 1) t b ∙ none (place es (v + v + 1)) (ap (λ n. is_some (place es n)) (sym (negation-number v)) ∙ (is_some-place es (negation l) ∙ both.1)),
    )
  where
    none : (o : Option ℕ) → is_some o ≡ false → o ≡ None
    none None e = refl
    none (Some k) e = absurd (false≢true (sym e))

-- what is found in the heap, in terms of the entries
pub free-found : (es : List Entry) (places : List (Option ℕ)) (vars n : ℕ) (o : Option ℕ) → IsPlaced es places → length places ≡ vars + vars → n ≡ vars → IfSome o (λ v. (v < n) × IsOpen places v) → IfNone o ((v : ℕ) → v < n → IsOpen places v → ⊥) → MatchOption o ((v : ℕ) → v < vars → value_in (lits es) (positive v) ≢ None) (λ v. (v < vars) × (value_in (lits es) (positive v) ≡ None))
free-found es places vars n None t m s h g = λ v b e. g v (omega arith) (open-from_value es places v t (omega arith) e)
free-found es places vars n (Some v) t m s h g = let b = h.0 in (omega arith, value-from_open es places v t (omega arith) h.1)

-- the heap still has each variable without a value
pub has-still : (es : List Entry) (places : List (Option ℕ)) (vars : ℕ) (is_in after : List Bool) → IsDistinct eqb (variables es) → IsPlaced es places → length places ≡ vars + vars → HasOpen vars es is_in → length after ≡ length is_in → ((v : ℕ) → v < length is_in → IsOpen places v → get_or after v false ≡ true) → HasOpen vars es after
has-still es places vars is_in after u t m h size f = record {
  table = size ∙ h.table;
  in_heap = λ v b e. f v (let n = h.table in omega arith) (open-from_entry es places v u t (omega arith) e);
}
