-- A clause is not forced where unit propagation from its negated literals comes to rest.
use Rattle.std.proofs.Common.{◌≡◌, true, not, ◌&&◌, ◌||◌, IsTrue, List, [], ◌∷◌, ◌++◌, map, append_assoc, refl, sym, subst, ◌∙◌, inl, inr}
use Rattle.std.specs.List.{list_all, list_any}
use Rattle.std.proofs.lemmas.Bool.{and_parts, and_from, or_cases, false≢true, false_from_ne_true, not_from_true, not_from_false}
use Rattle.cnf.specs.declared.lit.Lit.{Lit}
use Rattle.cnf.specs.Lits.{negation, same, is_among}
use Rattle.cnf.specs.Propagation.{is_refuted, finds, finds_each, is_conflict, IsForced, is_open, is_consistent, has_two_open, is_at_rest}
use Rattle.cnf.proofs.ForCallers.{list_all-append-from, same-eq, same-from_eq, any-witness, all-among, all-from, negations-among}
use Rattle.sat_trail.specs.Trail.{Assignment, lits, IsTrail}
use Rattle.sat_trail.proofs.ForCallers.{no-both}
use Rattle.sat_watch.specs.Soundness.{is_false}

-- under a trail at rest on which the clause's literals are false, whatever is refuted is false
false-refuted : (clause trail found : List Lit) (l : Lit) → IsTrue (list_all (is_false trail) clause) → IsTrue (list_all (is_among trail) found) → IsTrue (is_refuted clause found l) → IsTrue (is_among trail (negation l))
false-refuted clause trail found l c f r =
    elim (or_cases (is_among clause l) (is_among (map negation found) l) r) [
      | inl m ↦ all-among (is_false trail) clause l c m
      | inr m ↦ all-among (is_among trail) found (negation l) f (negations-among found l m)
    ]

-- a clause of which all but one literal are false, at rest: the one is true
last-true : (k clause trail found : List Lit) (m : Lit) → IsTrue (is_consistent trail) → IsTrue (list_any (is_among trail) k || has_two_open trail k) → IsTrue (list_all (is_false trail) clause) → IsTrue (list_all (is_among trail) found) → IsTrue (list_all (λ l. same l m || is_refuted clause found l) k) → IsTrue (is_among trail m)
last-true k clause trail found m con rest c f all =
    elim (or_cases (list_any (is_among trail) k) (has_two_open trail k) rest) [
      | inl t ↦
          let w = any-witness (is_among trail) k t in
          let P : Lit → Type 0 = λ x. IsTrue (is_among trail x) in
          elim (or_cases (same w.0 m) (is_refuted clause found w.0) (all-among (λ l. same l m || is_refuted clause found l) k w.0 all w.1)) [
            | inl s ↦ subst P (same-eq w.0 m s) w.2
            | inr r ↦ absurd (both w.0 w.2 (false-refuted clause trail found w.0 c f r))
          ]
      | inr t ↦
          let w = any-witness (λ x. list_any (λ y. not (same x y) && (is_open trail x && is_open trail y)) k) k t in
          let v = any-witness (λ y. not (same w.0 y) && (is_open trail w.0 && is_open trail y)) k w.2 in
          let parts = and_parts (not (same w.0 v.0)) (is_open trail w.0 && is_open trail v.0) v.2 in
          let opens = and_parts (is_open trail w.0) (is_open trail v.0) parts.1 in
          let ew = only w.0 w.1 opens.0 in
          let ev = only v.0 v.1 opens.1 in
          absurd (false≢true (sym (not_from_true (same w.0 v.0) (same-from_eq w.0 v.0 (ew ∙ sym ev))) ∙ parts.0))
    ]
  where
    both : (x : Lit) → IsTrue (is_among trail x) → IsTrue (is_among trail (negation x)) → ⊥
    both x a b = false≢true (sym (not_from_true (is_among trail (negation x)) b) ∙ all-among (is_open trail) trail x con a)

    only : (x : Lit) → IsTrue (is_among k x) → IsTrue (is_open trail x) → x ≡ m
    only x kx o =
        elim (or_cases (same x m) (is_refuted clause found x) (all-among (λ l. same l m || is_refuted clause found l) k x all kx)) [
          | inl s ↦ same-eq x m s
          | inr r ↦ absurd (false≢true (sym (not_from_true (is_among trail (negation x)) (false-refuted clause trail found x c f r)) ∙ o))
        ]

found-on : (formula : List (List Lit)) (clause trail found : List Lit) (m : Lit) → IsTrue (is_consistent trail) → IsTrue (is_at_rest formula trail) → IsTrue (list_all (is_false trail) clause) → IsTrue (list_all (is_among trail) found) → IsTrue (finds formula clause found m) → IsTrue (is_among trail m)
found-on [] clause trail found m con r c f h = absurd (false≢true h)
found-on (k ∷ ks) clause trail found m con r c f h =
    let rest = and_parts (list_any (is_among trail) k || has_two_open trail k) (is_at_rest ks trail) r in
    elim (or_cases (is_among k m && list_all (λ l. same l m || is_refuted clause found l) k) (finds ks clause found m) h) [
      | inl e ↦ last-true k clause trail found m con rest.0 c f (and_parts (is_among k m) _ e).1
      | inr e ↦ found-on ks clause trail found m con rest.1 c f e
    ]

each-on : (formula : List (List Lit)) (clause trail before ms : List Lit) → IsTrue (is_consistent trail) → IsTrue (is_at_rest formula trail) → IsTrue (list_all (is_false trail) clause) → IsTrue (list_all (is_among trail) before) → IsTrue (finds_each formula clause before ms) → IsTrue (list_all (is_among trail) (before ++ ms))
each-on formula clause trail before [] con r c f h = list_all-append-from (is_among trail) before [] f refl
each-on formula clause trail before (m ∷ ms) con r c f h =
    let parts = and_parts (finds formula clause before m) (finds_each formula clause (before ++ m ∷ []) ms) h in
    let on = found-on formula clause trail before m con r c f parts.0 in
    let longer = list_all-append-from (is_among trail) before (m ∷ []) f (and_from (is_among trail m) true on refl) in
    rw (← append_assoc before (m ∷ []) ms) (each-on formula clause trail (before ++ m ∷ []) ms con r c longer parts.1)

no-conflict : (formula : List (List Lit)) (clause trail found : List Lit) → IsTrue (is_consistent trail) → IsTrue (is_at_rest formula trail) → IsTrue (list_all (is_false trail) clause) → IsTrue (list_all (is_among trail) found) → IsTrue (is_conflict formula clause found) → ⊥
no-conflict [] clause trail found con r c f h = false≢true h
no-conflict (k ∷ ks) clause trail found con r c f h =
    let rest = and_parts (list_any (is_among trail) k || has_two_open trail k) (is_at_rest ks trail) r in
    elim (or_cases (list_all (is_refuted clause found) k) (is_conflict ks clause found) h) [
      | inr e ↦ no-conflict ks clause trail found con rest.1 c f e
      | inl e ↦
          elim (or_cases (list_any (is_among trail) k) (has_two_open trail k) rest.0) [
            | inl t ↦ let w = any-witness (is_among trail) k t in clash w.0 w.2 (false-refuted clause trail found w.0 c f (all-among (is_refuted clause found) k w.0 e w.1))
            | inr t ↦
                let w = any-witness (λ x. list_any (λ y. not (same x y) && (is_open trail x && is_open trail y)) k) k t in
                let v = any-witness (λ y. not (same w.0 y) && (is_open trail w.0 && is_open trail y)) k w.2 in
                let opens = and_parts (is_open trail w.0) (is_open trail v.0) (and_parts (not (same w.0 v.0)) _ v.2).1 in
                false≢true (sym (not_from_true (is_among trail (negation w.0)) (false-refuted clause trail found w.0 c f (all-among (is_refuted clause found) k w.0 e w.1))) ∙ opens.0)
          ]
    ]
  where
    clash : (x : Lit) → IsTrue (is_among trail x) → IsTrue (is_among trail (negation x)) → ⊥
    clash x a b = false≢true (sym (not_from_true (is_among trail (negation x)) b) ∙ all-among (is_open trail) trail x con a)

-- a trail at rest, without a literal beside its negation, on which the clause is false: it is not forced
pub not_forced-from_rest : (formula : List (List Lit)) (clause trail : List Lit) → IsTrue (is_consistent trail) → IsTrue (is_at_rest formula trail) → IsTrue (list_all (is_false trail) clause) → IsForced formula clause → ⊥
not_forced-from_rest formula clause trail con r c forced =
    let on = each-on formula clause trail [] forced.found con r c refl forced.each_found in
    no-conflict formula clause trail forced.found con r c on forced.conflict

-- no literal of a trail stands beside its negation
pub trail-consistent : (t : Assignment) → IsTrail t → IsTrue (is_consistent (lits t.entries))
trail-consistent t h =
    all-from (is_open (lits t.entries)) (lits t.entries) (λ l m.
    not_from_false (is_among (lits t.entries) (negation l)) (false_from_ne_true _ (λ n. no-both t l h m n)))
