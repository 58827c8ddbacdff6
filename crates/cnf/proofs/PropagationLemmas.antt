-- What unit propagation finds is true in every list of values that satisfies the formula.
use Rattle.std.proofs.Common.{◌≡◌, Bool, true, false, ◌&&◌, ◌||◌, IsTrue, List, [], ◌∷◌, ◌++◌, map, refl, sym, ap, ◌∙◌, inl, inr}
use Rattle.std.specs.List.{list_all}
use Rattle.std.proofs.lemmas.List.{append_assoc}
use Rattle.std.proofs.lemmas.Bool.{and_parts, and_from, or_cases, or_from, or_parts, eqb-true, false≢true, cases_Bool, not_from_true}
use Rattle.cnf.specs.declared.lit.Lit.{Lit}
use Rattle.cnf.specs.Cnf.{Cnf, Follows}
use Rattle.cnf.specs.Lits.{negation, same, is_among}
use Rattle.cnf.specs.Propagation.{is_refuted, finds, finds_each, is_conflict, IsForced}
use Rattle.cnf.specs.Values.{value, holds, all_hold}
use Rattle.cnf.proofs.LitLemmas.{value-negation, list_all-append-from}

value-same : (vs : List Bool) (a b : Lit) → IsTrue (same a b) → value vs a ≡ value vs b
value-same vs a b h = let of_number : (n : _) → Lit = λ n. record { 0 = n } in ap (λ n. value vs (of_number n)) (eqb-true a.0 b.0 h)

-- what is among false literals is false
among-false : (vs : List Bool) (ls : List Lit) (l : Lit) → holds vs ls ≡ false → IsTrue (is_among ls l) → value vs l ≡ false
among-false vs [] l h m = absurd (false≢true m)
among-false vs (x ∷ xs) l h m =
    let none = or_parts (value vs x) (holds vs xs) h in
    elim (or_cases (same l x) (is_among xs l) m) [
      | inl e ↦ value-same vs l x e ∙ none.0
      | inr e ↦ among-false vs xs l none.1 e
    ]

-- the negation of what is true is false
negated-false : (vs : List Bool) (trail : List Lit) (l : Lit) → IsTrue (list_all (value vs) trail) → IsTrue (is_among (map negation trail) l) → value vs l ≡ false
negated-false vs [] l h m = absurd (false≢true m)
negated-false vs (x ∷ xs) l h m =
    let all = and_parts (value vs x) (list_all (value vs) xs) h in
    elim (or_cases (same l (negation x)) (is_among (map negation xs) l) m) [
      | inl e ↦ value-same vs l (negation x) e ∙ (value-negation vs x ∙ not_from_true (value vs x) all.0)
      | inr e ↦ negated-false vs xs l all.1 e
    ]

refuted-false : (vs : List Bool) (clause trail : List Lit) (l : Lit) → holds vs clause ≡ false → IsTrue (list_all (value vs) trail) → IsTrue (is_refuted clause trail l) → value vs l ≡ false
refuted-false vs clause trail l h t m =
    elim (or_cases (is_among clause l) (is_among (map negation trail) l) m) [
      | inl e ↦ among-false vs clause l h e
      | inr e ↦ negated-false vs trail l t e
    ]

-- a clause that holds has the one literal that is not refuted as its true one
last-true : (vs : List Bool) (clause trail : List Lit) (m : Lit) (k : List Lit) → holds vs clause ≡ false → IsTrue (list_all (value vs) trail) → IsTrue (holds vs k) → IsTrue (list_all (λ l. same l m || is_refuted clause trail l) k) → IsTrue (value vs m)
last-true vs clause trail m [] h t k r = absurd (false≢true k)
last-true vs clause trail m (x ∷ xs) h t k r =
    let each = and_parts (same x m || is_refuted clause trail x) (list_all (λ l. same l m || is_refuted clause trail l) xs) r in
    elim (or_cases (value vs x) (holds vs xs) k) [
      | inl e ↦
          elim (or_cases (same x m) (is_refuted clause trail x) each.0) [
            | inl s ↦ sym (value-same vs x m s) ∙ e
            | inr f ↦ absurd (false≢true (sym (refuted-false vs clause trail x h t f) ∙ e))
          ]
      | inr e ↦ last-true vs clause trail m xs h t e each.1
    ]

found-true : (vs : List Bool) (formula : List (List Lit)) (clause trail : List Lit) (m : Lit) → IsTrue (all_hold vs formula) → holds vs clause ≡ false → IsTrue (list_all (value vs) trail) → IsTrue (finds formula clause trail m) → IsTrue (value vs m)
found-true vs [] clause trail m a h t f = absurd (false≢true f)
found-true vs (k ∷ ks) clause trail m a h t f =
    let all = and_parts (holds vs k) (all_hold vs ks) a in
    elim (or_cases (is_among k m && list_all (λ l. same l m || is_refuted clause trail l) k) (finds ks clause trail m) f) [
      | inl e ↦ last-true vs clause trail m k h t all.0 (and_parts (is_among k m) _ e).1
      | inr e ↦ found-true vs ks clause trail m all.1 h t e
    ]

each-true : (vs : List Bool) (formula : List (List Lit)) (clause trail found : List Lit) → IsTrue (all_hold vs formula) → holds vs clause ≡ false → IsTrue (list_all (value vs) trail) → IsTrue (finds_each formula clause trail found) → IsTrue (list_all (value vs) (trail ++ found))
each-true vs formula clause trail [] a h t f = list_all-append-from (value vs) trail [] t refl
each-true vs formula clause trail (m ∷ ms) a h t f =
    let parts = and_parts (finds formula clause trail m) (finds_each formula clause (trail ++ m ∷ []) ms) f in
    let true_m = found-true vs formula clause trail m a h t parts.0 in
    let longer = list_all-append-from (value vs) trail (m ∷ []) t (and_from (value vs m) true true_m refl) in
    rw (← append_assoc trail (m ∷ []) ms) (each-true vs formula clause (trail ++ m ∷ []) ms a h longer parts.1)

refuted-clause : (vs : List Bool) (clause trail k : List Lit) → holds vs clause ≡ false → IsTrue (list_all (value vs) trail) → IsTrue (list_all (is_refuted clause trail) k) → holds vs k ≡ false
refuted-clause vs clause trail [] h t r = refl
refuted-clause vs clause trail (x ∷ xs) h t r =
    let each = and_parts (is_refuted clause trail x) (list_all (is_refuted clause trail) xs) r in
    or_from (value vs x) (holds vs xs) (refuted-false vs clause trail x h t each.0) (refuted-clause vs clause trail xs h t each.1)

no-conflict : (vs : List Bool) (formula : List (List Lit)) (clause trail : List Lit) → IsTrue (all_hold vs formula) → holds vs clause ≡ false → IsTrue (list_all (value vs) trail) → IsTrue (is_conflict formula clause trail) → ⊥
no-conflict vs [] clause trail a h t r = false≢true r
no-conflict vs (k ∷ ks) clause trail a h t r =
    let all = and_parts (holds vs k) (all_hold vs ks) a in
    elim (or_cases (list_all (is_refuted clause trail) k) (is_conflict ks clause trail) r) [
      | inl e ↦ false≢true (sym (refuted-clause vs clause trail k h t e) ∙ all.0)
      | inr e ↦ no-conflict vs ks clause trail all.1 h t e
    ]

-- a clause that unit propagation forces holds in every list of values that satisfies the formula
pub follows-from_forced : (f : Cnf) (clause : List Lit) → IsForced f.clauses clause → Follows f clause
follows-from_forced f clause forced vs s =
    elim (cases_Bool (holds vs clause)) [
      | inl e ↦ e
      | inr e ↦
          let found = each-true vs f.clauses clause [] forced.found s.each_holds e refl forced.each_found in
          absurd (no-conflict vs f.clauses clause forced.found s.each_holds e found forced.conflict)
    ]
