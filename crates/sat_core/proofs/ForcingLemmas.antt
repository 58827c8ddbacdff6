-- Lemmas on which clauses unit propagation forces, and which add to it.
use Rattle.std.proofs.Common.{◌≡◌, ℕ, Bool, false, not, ◌&&◌, ◌||◌, IsTrue, Some, List, [], ◌∷◌, ◌++◌, map, refl, sym, ap, subst, ◌∙◌, inl, inr}
use Rattle.std.specs.List.{list_all, list_any, slice_get}
use Rattle.std.proofs.lemmas.Bool.{and_parts, and_from, or_cases, or_left, or_right, false≢true, cases_Bool, not_from_true}
use Rattle.cnf.specs.declared.lit.Lit.{Lit}
use Rattle.cnf.specs.Lits.{negation, same, is_among}
use Rattle.cnf.specs.Propagation.{is_refuted, finds, finds_each, is_conflict, IsForced, is_open, has_two_open, is_at_rest, Adds, is_subsumed}
use Rattle.cnf.proofs.ForCallers.{list_all-mono, same-eq, same-from_eq, any-witness, all-among, any-at, any-mono, among-negations, negations-among, among-append_left, among-append_right, among-append_cases}

-- one clause and trail make false whatever another makes false
abbrev pub Refutes : List Lit → List Lit → List Lit → List Lit → Type 0
Refutes c t d u = (l : Lit) → IsTrue (is_refuted c t l) → IsTrue (is_refuted d u l)

or-mono : (a b c d : Bool) → (IsTrue a → IsTrue c) → (IsTrue b → IsTrue d) → IsTrue (a || b) → IsTrue (c || d)
or-mono a b c d f g h = elim (or_cases a b h) [ inl e ↦ or_left c d (f e) | inr e ↦ or_right c d (g e) ]

pub finds-more : (formula : List (List Lit)) (c t d u : List Lit) (m : Lit) → Refutes c t d u → IsTrue (finds formula c t m) → IsTrue (finds formula d u m)
finds-more formula c t d u m r h =
    any-mono (λ k. is_among k m && list_all (λ l. same l m || is_refuted c t l) k) (λ k. is_among k m && list_all (λ l. same l m || is_refuted d u l) k) (λ k e.
    let parts = and_parts (is_among k m) (list_all (λ l. same l m || is_refuted c t l) k) e in
    and_from _ _ parts.0 (list_all-mono (λ l. same l m || is_refuted c t l) (λ l. same l m || is_refuted d u l) (λ l. or-mono (same l m) (is_refuted c t l) (same l m) (is_refuted d u l) (λ x. x) (r l)) k parts.1)) formula h

refutes-push : (c t d u : List Lit) (m : Lit) → Refutes c t d u → Refutes c (t ++ m ∷ []) d (u ++ m ∷ [])
refutes-push c t d u m r l h =
    elim (or_cases (is_among c l) (is_among (map negation (t ++ m ∷ [])) l) h) [
      | inl e ↦ widen l (r l (or_left (is_among c l) (is_among (map negation t) l) e))
      | inr e ↦
          elim (among-append_cases t (m ∷ []) (negation l) (negations-among (t ++ m ∷ []) l e)) [
            | inl a ↦ widen l (r l (or_right (is_among c l) (is_among (map negation t) l) (among-negations t l a)))
            | inr a ↦ or_right (is_among d l) (is_among (map negation (u ++ m ∷ [])) l) (among-negations (u ++ m ∷ []) l (among-append_right u (m ∷ []) (negation l) a))
          ]
    ]
  where
    widen : (l : Lit) → IsTrue (is_refuted d u l) → IsTrue (is_refuted d (u ++ m ∷ []) l)
    widen l h =
        elim (or_cases (is_among d l) (is_among (map negation u) l) h) [
          | inl e ↦ or_left (is_among d l) (is_among (map negation (u ++ m ∷ [])) l) e
          | inr e ↦ or_right (is_among d l) (is_among (map negation (u ++ m ∷ [])) l) (among-negations (u ++ m ∷ []) l (among-append_left u (m ∷ []) (negation l) (negations-among u l e)))
        ]

pub finds_each-more : (formula : List (List Lit)) (c t d u ms : List Lit) → Refutes c t d u → IsTrue (finds_each formula c t ms) → IsTrue (finds_each formula d u ms)
finds_each-more formula c t d u [] r h = refl
finds_each-more formula c t d u (m ∷ ms) r h =
    let parts = and_parts (finds formula c t m) (finds_each formula c (t ++ m ∷ []) ms) h in
    and_from _ _ (finds-more formula c t d u m r parts.0) (finds_each-more formula c (t ++ m ∷ []) d (u ++ m ∷ []) ms (refutes-push c t d u m r) parts.1)

pub conflict-more : (formula : List (List Lit)) (c t d u : List Lit) → Refutes c t d u → IsTrue (is_conflict formula c t) → IsTrue (is_conflict formula d u)
conflict-more formula c t d u r h =
    any-mono (λ k. list_all (is_refuted c t) k) (λ k. list_all (is_refuted d u) k) (λ k e. list_all-mono (is_refuted c t) (is_refuted d u) r k e) formula h

-- a clause with all literals of one of the formula's is forced
pub forced-start : (formula : List (List Lit)) (clause k : List Lit) (at : ℕ) → slice_get formula at ≡ Some k → IsTrue (list_all (is_among clause) k) → IsForced formula clause
forced-start formula clause k at e h = record {
  found = [];
  each_found = refl;
  conflict =
      any-at (λ k. list_all (is_refuted clause []) k) formula at k e (list_all-mono (is_among clause) (is_refuted clause []) (λ l m. or_left (is_among clause l) false m) k h);
}

-- one step of the analysis: a literal goes, by a clause in which all others are the new one's
pub forced-resolve : (formula : List (List Lit)) (old new k : List Lit) (m : Lit) (at : ℕ) → IsForced formula old → slice_get formula at ≡ Some k → IsTrue (is_among k m) → IsTrue (list_all (λ l. same l m || is_among new l) k) → IsTrue (list_all (λ l. same l (negation m) || is_among new l) old) → IsForced formula new
forced-resolve formula old new k m at forced e in_k others kept = record {
  found = m ∷ forced.found;
  each_found =
      and_from _ _ (any-at (λ k. is_among k m && list_all (λ l. same l m || is_refuted new [] l) k) formula at k e (and_from _ _ in_k (list_all-mono (λ l. same l m || is_among new l) (λ l. same l m || is_refuted new [] l) (λ l. or-mono (same l m) (is_among new l) (same l m) (is_refuted new [] l) (λ x. x) (or_left (is_among new l) false)) k others))) (finds_each-more formula old [] new (m ∷ []) forced.found covers forced.each_found);
  conflict = conflict-more formula old forced.found new (m ∷ forced.found) covers_all forced.conflict;
}
  where
    of_old : (t : List Lit) (l : Lit) → IsTrue (is_among old l) → IsTrue (is_refuted new (m ∷ t) l)
    of_old t l h =
        elim (or_cases (same l (negation m)) (is_among new l) (all-among (λ l. same l (negation m) || is_among new l) old l kept h)) [
          | inl s ↦ or_right (is_among new l) (is_among (map negation (m ∷ t)) l) (or_left (same l (negation m)) (is_among (map negation t) l) s)
          | inr n ↦ or_left (is_among new l) (is_among (map negation (m ∷ t)) l) n
        ]

    covers : Refutes old [] new (m ∷ [])
    covers l h =
        elim (or_cases (is_among old l) false h) [
          | inl o ↦ of_old [] l o
          | inr n ↦ absurd (false≢true n)
        ]

    covers_all : Refutes old forced.found new (m ∷ forced.found)
    covers_all l h =
        elim (or_cases (is_among old l) (is_among (map negation forced.found) l) h) [
          | inl o ↦ of_old forced.found l o
          | inr n ↦ or_right (is_among new l) (is_among (map negation (m ∷ forced.found)) l) (or_right (same l (negation m)) (is_among (map negation forced.found) l) n)
        ]

-- a clause that adds to unit propagation contains no clause of the formula
pub not_subsumed-from_adds : (formula : List (List Lit)) (clause : List Lit) → Adds formula clause → IsTrue (not (is_subsumed formula clause))
not_subsumed-from_adds formula clause a = none formula a.at_rest
  where
    lit_parts : IsTrue (not (is_among a.trail a.lit)) × IsTrue (is_open a.trail a.lit)
    lit_parts = and_parts (not (is_among a.trail a.lit)) (is_open a.trail a.lit) a.lit_open

    denied : (x : Lit) → IsTrue (is_among clause x) → IsTrue (is_open a.trail x) → x ≡ a.lit
    denied x c o =
        elim (or_cases (same x a.lit) (is_among a.trail (negation x)) (all-among (λ m. same m a.lit || is_among a.trail (negation m)) clause x a.others_denied c)) [
          | inl s ↦ same-eq x a.lit s
          | inr d ↦ absurd (false≢true (sym (not_from_true (is_among a.trail (negation x)) d) ∙ o))
        ]

    -- no clause of the formula is contained
    one : (k : List Lit) → IsTrue (list_any (is_among a.trail) k || has_two_open a.trail k) → IsTrue (list_all (is_among clause) k) → ⊥
    one k rest sub =
        elim (or_cases (list_any (is_among a.trail) k) (has_two_open a.trail k) rest) [
          | inl t ↦
              let w = any-witness (is_among a.trail) k t in
              let open_w = all-among (is_open a.trail) a.trail w.0 a.consistent w.2 in
              let e = denied w.0 (all-among (is_among clause) k w.0 sub w.1) open_w in
              let P : Lit → Type 0 = λ z. IsTrue (is_among a.trail z) in
              false≢true (sym (not_from_true (is_among a.trail a.lit) (subst P e w.2)) ∙ lit_parts.0)
          | inr t ↦
              let w = any-witness (λ x. list_any (λ y. not (same x y) && (is_open a.trail x && is_open a.trail y)) k) k t in
              let v = any-witness (λ y. not (same w.0 y) && (is_open a.trail w.0 && is_open a.trail y)) k w.2 in
              let parts = and_parts (not (same w.0 v.0)) (is_open a.trail w.0 && is_open a.trail v.0) v.2 in
              let opens = and_parts (is_open a.trail w.0) (is_open a.trail v.0) parts.1 in
              let ew = denied w.0 (all-among (is_among clause) k w.0 sub w.1) opens.0 in
              let ev = denied v.0 (all-among (is_among clause) k v.0 sub v.1) opens.1 in
              false≢true (sym (not_from_true (same w.0 v.0) (same-from_eq w.0 v.0 (ew ∙ sym ev))) ∙ parts.0)
        ]

    none : (ks : List (List Lit)) → IsTrue (is_at_rest ks a.trail) → IsTrue (not (is_subsumed ks clause))
    none [] r = refl
    none (k ∷ ks) r =
        let parts = and_parts (list_any (is_among a.trail) k || has_two_open a.trail k) (is_at_rest ks a.trail) r in
        elim (cases_Bool (list_all (is_among clause) k)) [
          | inl s ↦ absurd (one k parts.0 s)
          | inr s ↦ ap (λ b. not (b || is_subsumed ks clause)) s ∙ none ks parts.1
        ]
