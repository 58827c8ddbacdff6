-- Lemmas on the entries of a trail: their literals, their variables and what these are worth.
use Rattle.std.proofs.Common.{◌≡◌, ◌≢◌, ◌+◌, ◌-◌, ◌*◌, ◌/◌, ◌%◌, ◌^◌, ◌<◌, ◌≤◌, ◌⊎◌, ℕ, Bool, true, false, not, ◌&&◌, ◌||◌, cond, eqb, ltb, leb, IsTrue, zero, suc, Option, None, Some, List, [], ◌∷◌, ◌++◌, length, map, take, set, get_or, replicate, refl, sym, ap, subst, ◌∙◌, inl, inr, arith, add-one}
use Rattle.std.specs.List.{list_any, slice_get, IsDistinct, AllByRecursion}
use Rattle.std.proofs.lemmas.Cmp.{nat_eq_equiv}
use Rattle.std.proofs.lemmas.Bool.{and_parts, and_from, or_cases, or_left, or_right, or_parts, or_from, eqb-true, eq-eqb, eqb-false, ltb-true, ne_eqb, false≢true, true≢false, cases_eq, cond-true, cond-false}
use Rattle.std.proofs.lemmas.List.{length-map, length-set, length_push, map_push, get_or-set_same, get_or-set_other, take_more, length-take, length-take-le, get_or-take, get_or-replicate, length-replicate, get_or-map, take-map, take_all, append-nil}
use Rattle.std.proofs.lemmas.Map.Keys.{IsDistinct-push, IsDistinct-head, IsDistinct-tail, apart_from_distinct, IsDistinct-from_apart}
use Rattle.std.proofs.lemmas.Map.Steps.{length-le_from_distinct_below}
use Rattle.cnf.specs.declared.lit.Lit.{Lit}
use Rattle.cnf.specs.Lits.{variable, negation, same, is_among, is_below, are_below}
use Rattle.cnf.proofs.ForCallers.{parity, number-eq, negation-even, negation-odd, variable-negation, are_below-take, same-eq, same-refl, negation-apart}
use Rattle.sat_trail.specs.declared.entry.Entry.{Entry}
use Rattle.sat_trail.specs.Trail.{Assignment, lits, variables, value_in, entry_of, IsTrail}

-- ---- values

pub some≢none : {X : Type 0} {x : X} → ◌≡◌ {A = Option X} (Some x) None → ⊥
some≢none e = cc

pub in_some : {X : Type 0} {x y : X} → ◌≡◌ {A = Option X} (Some x) (Some y) → x ≡ y
in_some e = cc

none-parts : (a b : Bool) → ◌≡◌ {A = Option Bool} (cond a (Some true) (cond b (Some false) None)) None → (a ≡ false) × (b ≡ false)
none-parts true b e = absurd (some≢none e)
none-parts false true e = absurd (some≢none e)
none-parts false false e = (refl, refl)

-- an open literal is not true, and neither is its negation
pub open-parts : (trail : List Lit) (l : Lit) → value_in trail l ≡ None → (is_among trail l ≡ false) × (is_among trail (negation l) ≡ false)
open-parts trail l e = none-parts (is_among trail l) (is_among trail (negation l)) e

-- a literal with the value `true` is among those that are true
pub true-from_value : (trail : List Lit) (l : Lit) → value_in trail l ≡ Some true → IsTrue (is_among trail l)
true-from_value trail l e = choose (is_among trail l) (is_among trail (negation l)) e
  where
    choose : (a b : Bool) → ◌≡◌ {A = Option Bool} (cond a (Some true) (cond b (Some false) None)) (Some true) → IsTrue a
    choose true b e = refl
    choose false true e = absurd (true≢false (sym (in_some e)))
    choose false false e = absurd (some≢none (sym e))

-- and so is the negation of one with the value `false`
pub false-from_value : (trail : List Lit) (l : Lit) → value_in trail l ≡ Some false → IsTrue (is_among trail (negation l))
false-from_value trail l e = choose (is_among trail l) (is_among trail (negation l)) e
  where
    choose : (a b : Bool) → ◌≡◌ {A = Option Bool} (cond a (Some true) (cond b (Some false) None)) (Some false) → IsTrue b
    choose true b e = absurd (true≢false (in_some e))
    choose false true e = refl
    choose false false e = absurd (some≢none (sym e))

-- ---- variables

-- two literals of one variable are the same, or each other's negation
pub same_variable-cases : (a b : Lit) → variable a ≡ variable b → (a ≡ b) ⊎ (a ≡ negation b)
same_variable-cases a b e =
    elim (cases_eq a.0 b.0) [
      | inl s ↦ inl (number-eq a b s)
      | inr d ↦
          elim (parity b.0) [
            | inl p ↦ let h = negation-even b p in inr (number-eq a (negation b) (omega arith))
            | inr p ↦ let h = negation-odd b p in inr (number-eq a (negation b) (omega arith))
          ]
    ]

-- a literal that is open has a variable that no entry has
open-variable : (es : List Entry) (l : Lit) → is_among (lits es) l ≡ false → is_among (lits es) (negation l) ≡ false → list_any (eqb (variable l)) (variables es) ≡ false
open-variable [] l a b = refl
open-variable (e ∷ es) l a b =
    let pa = or_parts (same l e.lit) (is_among (lits es) l) a in
    let pb = or_parts (same (negation l) e.lit) (is_among (lits es) (negation l)) b in
    or_from _ _ (ne_eqb (variable l) (variable e.lit) (λ h. elim (same_variable-cases e.lit l (sym h)) [
      | inl s ↦ eqb-false l.0 e.lit.0 pa.0 (ap (λ (x : Lit). x.0) (sym s))
      | inr s ↦ eqb-false (negation l).0 e.lit.0 pb.0 (ap (λ (x : Lit). x.0) (sym s))
    ])) (open-variable es l pa.1 pb.1)

-- the variables of literals in range are in range
variables-below : (n : ℕ) (es : List Entry) → IsTrue (are_below n (lits es)) → (q : ℕ) → IsTrue (list_any (eqb q) (variables es)) → q < n
variables-below n [] h q m = absurd (false≢true m)
variables-below n (e ∷ es) h q m =
    let parts = and_parts (is_below n e.lit) (are_below n (lits es)) h in
    elim (or_cases (eqb q (variable e.lit)) (list_any (eqb q) (variables es)) m) [
      | inl s ↦ let k = eqb-true q (variable e.lit) s in let b = ltb-true (variable e.lit) n parts.0 in omega arith
      | inr s ↦ variables-below n es parts.1 q s
    ]

-- one more entry of an open literal leaves the variables distinct
pub distinct-push : (es : List Entry) (e : Entry) → IsDistinct eqb (variables es) → value_in (lits es) e.lit ≡ None → IsDistinct eqb (variables (es ++ e ∷ []))
distinct-push es e d o =
    let parts = open-parts (lits es) e.lit o in
    let P : List ℕ → Type 0 = λ xs. IsDistinct eqb xs in
    subst P (sym (map_push (λ (e : Entry). variable e.lit) es e)) (IsDistinct-push nat_eq_equiv (variables es) (variable e.lit) d (open-variable es e.lit parts.0 parts.1))

-- one more entry in range
pub below-push : (n : ℕ) (es : List Entry) (e : Entry) → IsTrue (are_below n (lits es)) → IsTrue (is_below n e.lit) → IsTrue (are_below n (lits (es ++ e ∷ [])))
below-push n [] e h b = and_from (is_below n e.lit) true b refl
below-push n (x ∷ xs) e h b =
    let parts = and_parts (is_below n x.lit) (are_below n (lits xs)) h in
    and_from _ _ parts.0 (below-push n xs e parts.1 b)

-- there are no more entries than variables
pub length-le_vars : (n : ℕ) (es : List Entry) → IsTrue (are_below n (lits es)) → IsDistinct eqb (variables es) → length es ≤ n
length-le_vars n es b d =
    let k = length-le_from_distinct_below (variables es) n d (variables-below n es b) in
    let same_length : length (variables es) ≡ length es = simp length-map in
    omega arith

-- with an open literal there is room for one more
pub room-from_open : (n : ℕ) (es : List Entry) (e : Entry) → IsTrue (are_below n (lits es)) → IsDistinct eqb (variables es) → IsTrue (is_below n e.lit) → value_in (lits es) e.lit ≡ None → length es < n
room-from_open n es e b d h o =
    let k = length-le_vars n (es ++ e ∷ []) (below-push n es e b h) (distinct-push es e d o) in
    let p = length_push es e in
    omega arith

-- the literal at a place is in range
pub below-get : (n : ℕ) (es : List Entry) (k : ℕ) (d : Entry) → IsTrue (are_below n (lits es)) → k < length es → IsTrue (is_below n (get_or es k d).lit)
below-get n [] k d h b = absurd (omega arith)
below-get n (x ∷ xs) zero d h b = (and_parts (is_below n x.lit) (are_below n (lits xs)) h).0
below-get n (x ∷ xs) (suc k) d h b = below-get n xs k d (and_parts (is_below n x.lit) (are_below n (lits xs)) h).1 (omega arith)

-- the first entries
pub distinct-take : (k : ℕ) (es : List Entry) → IsDistinct eqb (variables es) → IsDistinct eqb (variables (take k es))
distinct-take k es h = IsDistinct-from_apart eqb (variables (take k es)) (λ i j d a b.
    let e : variables (take k es) ≡ take k (variables es) = sym (take-map (λ (e : Entry). variable e.lit) k es) in
    apart_in i j d a b e)
  where
    apart_in : (i j d : ℕ) → i < j → j < length (variables (take k es)) → variables (take k es) ≡ take k (variables es) → eqb (get_or (variables (take k es)) i d) (get_or (variables (take k es)) j d) ≡ false
    apart_in i j d a b e =
        let P : List ℕ → Type 0 = λ xs. eqb (get_or xs i d) (get_or xs j d) ≡ false in
        let shorter = ap length e in
        let len : length (take k (variables es)) ≡ Rattle.std.proofs.Common.min k (length (variables es)) = Rattle.std.proofs.lemmas.List.length-take k (variables es) in
        let apart = apart_from_distinct eqb (variables es) i j d h a (omega arith) in
        let ei = Rattle.std.proofs.lemmas.List.get_or-take k (variables es) i d (omega arith) in
        let ej = Rattle.std.proofs.lemmas.List.get_or-take k (variables es) j d (omega arith) in
        subst P (sym e) (ap (λ x. eqb x (get_or (take k (variables es)) j d)) ei ∙ (ap (λ x. eqb (get_or (variables es) i d) x) ej ∙ apart))

-- and so are those of the first entries
pub below-take : (n k : ℕ) (es : List Entry) → IsTrue (are_below n (lits es)) → IsTrue (are_below n (lits (take k es)))
below-take n k es h =
    let P : List Lit → Type 0 = λ ls. IsTrue (are_below n ls) in
    subst P (take-map (λ (e : Entry). e.lit) k es) (are_below-take n k (lits es) h)

-- the literal at a place is that of the entry there
pub lit-at : (es : List Entry) (k : ℕ) (l : Lit) (d : Entry) → slice_get (lits es) k ≡ Some l → (get_or es k d).lit ≡ l
lit-at [] k l d e = absurd (some≢none (sym e))
lit-at (x ∷ xs) zero l d e = in_some e
lit-at (x ∷ xs) (suc k) l d e = lit-at xs k l d e

pub at-lit : (es : List Entry) (k : ℕ) (d : Entry) → k < length es → slice_get (lits es) k ≡ Some (get_or es k d).lit
at-lit [] k d b = absurd (omega arith)
at-lit (x ∷ xs) zero d b = refl
at-lit (x ∷ xs) (suc k) d b = at-lit xs k d (omega arith)

-- the variable at a place is that of the entry there
variables-get : (es : List Entry) (k : ℕ) (d : Entry) → k < length es → get_or (variables es) k 0 ≡ variable (get_or es k d).lit
variables-get es k d b = get_or-map (λ (e : Entry). variable e.lit) es k d 0 b

-- the entry of a variable is the one at a place, where this is of the variable
pub entry_of-at : (es : List Entry) (v k : ℕ) (d : Entry) → IsDistinct eqb (variables es) → k < length es → variable (get_or es k d).lit ≡ v → entry_of es v ≡ Some (get_or es k d)
entry_of-at [] v k d u b e = absurd (omega arith)
entry_of-at (x ∷ xs) v zero d u b e = cond-true (eqb (variable x.lit) v) (Some x) (entry_of xs v) (eq-eqb _ _ e)
entry_of-at (x ∷ xs) v (suc k) d u b e =
    let same_length : length (variables xs) ≡ length xs = simp length-map in
    let apart = apart_from_distinct eqb (variables (x ∷ xs)) 0 (suc k) 0 u (omega arith) (omega arith) in
    let at = variables-get xs k d (omega arith) in
    cond-false (eqb (variable x.lit) v) (Some x) (entry_of xs v) (ne_eqb _ _ (λ h. eqb-false (variable x.lit) (get_or (variables xs) k 0) apart (h ∙ (sym e ∙ sym at))))
    ∙ entry_of-at xs v k d (IsDistinct-tail eqb (variable x.lit) (variables xs) u) (omega arith) e

-- ---- one variable has one literal

-- an entry apart from the others has no variable of theirs
pub head-apart : (x : Entry) (xs : List Entry) (l : Lit) → AllByRecursion (λ y. eqb (variable x.lit) y ≡ false) (variables xs) → IsTrue (is_among (lits xs) l) → variable x.lit ≡ variable l → ⊥
head-apart x [] l a m e = false≢true m
head-apart x (y ∷ ys) l a m e =
    elim (or_cases (same l y.lit) (is_among (lits ys) l) m) [
      | inl s ↦ eqb-false (variable x.lit) (variable y.lit) a.0 (e ∙ ap variable (same-eq l y.lit s))
      | inr s ↦ head-apart x ys l a.1 s e
    ]

-- two true literals of one variable are the same
pub one-literal : (es : List Entry) (a b : Lit) → IsDistinct eqb (variables es) → IsTrue (is_among (lits es) a) → IsTrue (is_among (lits es) b) → variable a ≡ variable b → a ≡ b
one-literal [] a b d ma mb e = absurd (false≢true ma)
one-literal (x ∷ xs) a b d ma mb e =
    let head = IsDistinct-head eqb (variable x.lit) (variables xs) d in
    elim (or_cases (same a x.lit) (is_among (lits xs) a) ma) [
      | inl sa ↦
          elim (or_cases (same b x.lit) (is_among (lits xs) b) mb) [
            | inl sb ↦ same-eq a x.lit sa ∙ sym (same-eq b x.lit sb)
            | inr sb ↦ absurd (head-apart x xs b head sb (ap variable (sym (same-eq a x.lit sa)) ∙ e))
          ]
      | inr sa ↦
          elim (or_cases (same b x.lit) (is_among (lits xs) b) mb) [
            | inl sb ↦ absurd (head-apart x xs a head sa (ap variable (sym (same-eq b x.lit sb)) ∙ sym e))
            | inr sb ↦ one-literal xs a b (IsDistinct-tail eqb (variable x.lit) (variables xs) d) sa sb e
          ]
    ]

-- what is true among the first entries is true
pub lits-take : (es : List Entry) (k : ℕ) (l : Lit) → IsTrue (is_among (lits (take k es)) l) → IsTrue (is_among (lits es) l)
lits-take es zero l m = absurd (false≢true m)
lits-take [] (suc k) l m = absurd (false≢true m)
lits-take (x ∷ xs) (suc k) l m =
    elim (or_cases (same l x.lit) (is_among (lits (take k xs)) l) m) [
      | inl e ↦ or_left _ _ e
      | inr e ↦ or_right _ _ (lits-take xs k l e)
    ]

-- the literal at a place is true
pub lits-get : (es : List Entry) (k : ℕ) (d : Entry) → k < length es → IsTrue (is_among (lits es) (get_or es k d).lit)
lits-get [] k d b = absurd (omega arith)
lits-get (x ∷ xs) zero d b = or_left _ _ (same-refl x.lit)
lits-get (x ∷ xs) (suc k) d b = or_right _ _ (lits-get xs k d (omega arith))

-- an entry before a place has another variable than the one there
pub variable-before : (es : List Entry) (k : ℕ) (d : Entry) (l : Lit) → IsDistinct eqb (variables es) → k < length es → IsTrue (is_among (lits (take k es)) l) → variable l ≡ variable (get_or es k d).lit → ⊥
variable-before es zero d l u b m e = false≢true m
variable-before [] (suc k) d l u b m e = omega arith
variable-before (x ∷ xs) (suc k) d l u b m e =
    elim (or_cases (same l x.lit) (is_among (lits (take k xs)) l) m) [
      | inl s ↦
          let q = one-literal (x ∷ xs) x.lit (get_or xs k d).lit u (or_left _ _ (same-refl x.lit)) (or_right _ _ (lits-get xs k d (omega arith))) (ap variable (sym (same-eq l x.lit s)) ∙ e) in
          apart xs k d x.lit (IsDistinct-head eqb (variable x.lit) (variables xs) u) (omega arith) (ap variable q)
      | inr s ↦ variable-before xs k d l (IsDistinct-tail eqb (variable x.lit) (variables xs) u) (omega arith) s e
    ]
  where
    apart : (ys : List Entry) (k : ℕ) (d : Entry) (a : Lit) → AllByRecursion (λ y. eqb (variable a) y ≡ false) (variables ys) → k < length ys → variable a ≡ variable (get_or ys k d).lit → ⊥
    apart [] k d a h b q = omega arith
    apart (y ∷ ys) zero d a h b q = eqb-false (variable a) (variable y.lit) h.0 q
    apart (y ∷ ys) (suc k) d a h b q = apart ys k d a h.1 (omega arith) q

-- a true literal has a place
pub among-place : (es : List Entry) (l : Lit) → IsTrue (is_among (lits es) l) → (j : ℕ) × (j < length es) × ((d : Entry) → (get_or es j d).lit ≡ l)
among-place [] l m = absurd (false≢true m)
among-place (x ∷ xs) l m =
    elim (or_cases (same l x.lit) (is_among (lits xs) l) m) [
      | inl e ↦ (0, omega arith, λ d. sym (same-eq l x.lit e))
      | inr e ↦ let w = among-place xs l e in (suc w.0, omega (arith, w.1), w.2)
    ]

-- no true literal stands beside its negation
pub no-both : (t : Assignment) (l : Lit) → IsTrail t → IsTrue (is_among (lits t.entries) l) → IsTrue (is_among (lits t.entries) (negation l)) → ⊥
no-both t l h a b = negation-apart l (sym (one-literal t.entries l (negation l) h.distinct a b (sym (variable-negation l))))
