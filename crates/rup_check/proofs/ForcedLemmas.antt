-- A clause is forced where unit propagation from its negated literals ends in a conflict, or makes one
-- of its literals true.
use Rattle.std.proofs.Common.{◌≡◌, ℕ, false, ◌&&◌, ◌||◌, ◌⊎◌, IsTrue, Option, None, Some, List, [], ◌∷◌, ◌++◌, map, refl, sym, ap, subst, ◌∙◌, inl, inr}
use Rattle.std.specs.List.{list_all}
use Rattle.std.specs.Prelude.{MatchOption}
use Rattle.std.proofs.lemmas.Bool.{and_from, or_cases, or_left, or_right, false≢true, not_from_true}
use Rattle.std.proofs.lemmas.List.{append-nil, map_push}
use Rattle.cnf.specs.declared.lit.Lit.{Lit}
use Rattle.cnf.specs.Lits.{negation, same, is_among}
use Rattle.cnf.specs.Propagation.{is_refuted, finds_each, IsForced, is_open, is_consistent}
use Rattle.cnf.proofs.ForCallers.{list_all-mono, same-eq, same-from_eq, all-among, any-at, negation-twice, among-append_cases}
use Rattle.sat_trail.specs.declared.entry.Entry.{Entry}
use Rattle.sat_trail.specs.Trail.{lits}
use Rattle.sat_watch.specs.Numbered.{Numbered, clauses_of}
use Rattle.sat_watch.specs.Soundness.{is_false, Implies, Reasoned, IsConflict}
use Rattle.sat_watch.proofs.ForCallers.{under-at}
use Rattle.rup_check.specs.Root.{DecidedBy}
use Rattle.rup_check.proofs.DecidedLemmas.{decided-append}

-- a literal in front, where a clause implied it
put : Option ℕ → Lit → List Lit → List Lit
put None l ls = ls
put (Some number) l ls = l ∷ ls

-- the implied literals of a trail, in their order
implied : List Entry → List Lit
implied [] = []
implied (e ∷ es) = put e.reason e.lit (implied es)

implied-push : (es : List Entry) (e : Entry) → implied (es ++ e ∷ []) ≡ implied es ++ put e.reason e.lit []
unfolding implied put
implied-push [] e = refl
implied-push (x ∷ xs) e = by x.reason (implied-push xs e)
  where
    by : (o : Option ℕ) → implied (xs ++ e ∷ []) ≡ implied xs ++ put e.reason e.lit [] → put o x.lit (implied (xs ++ e ∷ [])) ≡ put o x.lit (implied xs) ++ put e.reason e.lit []
    by None h = h
    by (Some number) h = ap (λ ls. x.lit ∷ ls) h

-- a literal that the trail makes false is one of the clause, or the negation of an implied one
refuted-by : (clause : List Lit) (es : List Entry) (x : Lit) → DecidedBy clause es → IsTrue (is_false (lits es) x) → IsTrue (is_refuted clause (implied es) x)
unfolding implied put
refuted-by clause [] x d h = absurd (false≢true h)
refuted-by clause (e ∷ es) x d h =
    elim (or_cases (same (negation x) e.lit) (is_among (lits es) (negation x)) h) [
      | inl s ↦ here e.reason d.0 (same-eq (negation x) e.lit s)
      | inr r ↦ there e.reason (refuted-by clause es x d.1 r)
    ]
  where
    here : (o : Option ℕ) → MatchOption o (IsTrue (is_among clause (negation e.lit))) (λ _. Unit {0}) → negation x ≡ e.lit → IsTrue (is_refuted clause (put o e.lit (implied es)) x)
    here None d q = let P : Lit → Type 0 = λ l. IsTrue (is_among clause l) in or_left _ _ (subst P (ap negation (sym q) ∙ negation-twice x) d)
    here (Some number) d q = or_right (is_among clause x) _ (or_left (same x (negation e.lit)) _ (same-from_eq x (negation e.lit) (sym (negation-twice x) ∙ ap negation q)))

    there : (o : Option ℕ) → IsTrue (is_refuted clause (implied es) x) → IsTrue (is_refuted clause (put o e.lit (implied es)) x)
    there None r = r
    there (Some number) r =
        elim (or_cases (is_among clause x) (is_among (map negation (implied es)) x) r) [
          | inl m ↦ or_left _ _ m
          | inr m ↦ or_right (is_among clause x) _ (or_right (same x (negation e.lit)) _ m)
        ]

-- each implied literal is found
found-implied : (ns : List Numbered) (clause : List Lit) (bs es : List Entry) → Reasoned ns (lits bs) es → DecidedBy clause bs → DecidedBy clause es → IsTrue (finds_each (clauses_of ns) clause (implied bs) (implied es))
unfolding implied put
found-implied ns clause bs [] r db de = refl
found-implied ns clause bs (e ∷ es) r db de =
    let P : List Lit → Type 0 = λ ls. Reasoned ns ls es in
    let Q : List Lit → Type 0 = λ ls. IsTrue (finds_each (clauses_of ns) clause ls (implied es)) in
    let rest = found-implied ns clause (bs ++ e ∷ []) es (subst P (sym (map_push (λ (x : Entry). x.lit) bs e)) r.1) (decided-append clause bs (e ∷ []) db (de.0, tt)) de.1 in
    by e.reason r.0 (subst Q (implied-push bs e) rest)
  where
    by : (o : Option ℕ) → MatchOption o (Unit {0}) (λ at. Implies ns (lits bs) e.lit at) → IsTrue (finds_each (clauses_of ns) clause (implied bs ++ put o e.lit []) (implied es)) → IsTrue (finds_each (clauses_of ns) clause (implied bs) (put o e.lit (implied es)))
    by None h rest = let Q : List Lit → Type 0 = λ ls. IsTrue (finds_each (clauses_of ns) clause ls (implied es)) in subst Q (append-nil (implied bs)) rest
    by (Some at) h rest =
        let u = under-at ns at h.clause h.is_under in
        and_from _ _ (any-at (λ k. is_among k e.lit && list_all (λ l. same l e.lit || is_refuted clause (implied bs) l) k) (clauses_of ns) u.0 h.clause u.1 (and_from _ _ h.holds_it (list_all-mono (λ x. same x e.lit || is_false (lits bs) x) (λ l. same l e.lit || is_refuted clause (implied bs) l) (λ x t.
        elim (or_cases (same x e.lit) (is_false (lits bs) x) t) [
          | inl s ↦ or_left (same x e.lit) (is_refuted clause (implied bs) x) s
          | inr f ↦ or_right (same x e.lit) (is_refuted clause (implied bs) x) (refuted-by clause bs x db f)
        ]) h.clause h.others))) rest

-- where a clause is false
pub forced-conflict : (ns : List Numbered) (clause : List Lit) (es : List Entry) (number : ℕ) → Reasoned ns [] es → DecidedBy clause es → IsConflict ns (lits es) number → IsForced (clauses_of ns) clause
unfolding implied
forced-conflict ns clause es number r d c =
    let u = under-at ns number c.clause c.is_under in
    record {
      found = implied es;
      each_found = found-implied ns clause [] es r tt d;
      conflict = any-at (λ k. list_all (is_refuted clause (implied es)) k) (clauses_of ns) u.0 c.clause u.1 (list_all-mono (is_false (lits es)) (is_refuted clause (implied es)) (λ x. refuted-by clause es x d) c.clause c.all_false);
    }

-- a true literal was decided, or is implied
grounds : (ns : List Numbered) (clause all before : List Lit) (es : List Entry) (l : Lit) → Reasoned ns before es → DecidedBy clause es → ((x : Lit) → IsTrue (is_among before x) → IsTrue (is_among all x)) → ((x : Lit) → IsTrue (is_among (lits es) x) → IsTrue (is_among all x)) → IsTrue (is_among (lits es) l) → IsTrue (is_among clause (negation l)) ⊎ ((number : ℕ) × Implies ns all l number)
grounds ns clause all before [] l r d f g m = absurd (false≢true m)
grounds ns clause all before (e ∷ es) l r d f g m =
    elim (or_cases (same l e.lit) (is_among (lits es) l) m) [
      | inl s ↦ by e.reason (same-eq l e.lit s) r.0 d.0
      | inr h ↦ grounds ns clause all (before ++ e.lit ∷ []) es l r.1 d.1 wider (λ x n. g x (or_right (same x e.lit) _ n)) h
    ]
  where
    wider : (x : Lit) → IsTrue (is_among (before ++ e.lit ∷ []) x) → IsTrue (is_among all x)
    wider x n =
        elim (among-append_cases before (e.lit ∷ []) x n) [
          | inl h ↦ f x h
          | inr h ↦ elim (or_cases (same x e.lit) false h) [ inl s ↦ g x (or_left (same x e.lit) _ s) | inr s ↦ absurd (false≢true s) ]
        ]

    by : (o : Option ℕ) → l ≡ e.lit → MatchOption o (Unit {0}) (λ at. Implies ns before e.lit at) → MatchOption o (IsTrue (is_among clause (negation e.lit))) (λ _. Unit {0}) → IsTrue (is_among clause (negation l)) ⊎ ((number : ℕ) × Implies ns all l number)
    by None q h k = let P : Lit → Type 0 = λ x. IsTrue (is_among clause (negation x)) in inl (subst P (sym q) k)
    by (Some number) q h k =
        let P : Lit → Type 0 = λ x. Implies ns all x number in
        let i : Implies ns all e.lit number = record {
          clause = h.clause;
          is_under = h.is_under;
          holds_it = h.holds_it;
          others = list_all-mono (λ x. same x e.lit || is_false before x) (λ x. same x e.lit || is_false all x) (λ x t.
              elim (or_cases (same x e.lit) (is_false before x) t) [
                | inl s ↦ or_left (same x e.lit) (is_false all x) s
                | inr n ↦ or_right (same x e.lit) (is_false all x) (f (negation x) n)
              ]) h.clause h.others;
        } in
        inr (number, subst P (sym q) i)

-- where one of its literals is true
pub forced-true : (ns : List Numbered) (clause : List Lit) (es : List Entry) (l : Lit) → Reasoned ns [] es → DecidedBy clause es → IsTrue (is_consistent clause) → IsTrue (is_among clause l) → IsTrue (is_among (lits es) l) → IsForced (clauses_of ns) clause
unfolding implied
forced-true ns clause es l r d con m h =
    elim (grounds ns clause (lits es) [] es l r d (λ x n. absurd (false≢true n)) (λ x n. n) h) [
      | inl n ↦ absurd (false≢true (sym (not_from_true (is_among clause (negation l)) n) ∙ all-among (is_open clause) clause l con m))
      | inr i ↦ forced_by i.0 i.1
    ]
  where
    forced_by : (number : ℕ) → Implies ns (lits es) l number → IsForced (clauses_of ns) clause
    forced_by number i =
        let u = under-at ns number i.clause i.is_under in
        let P : Lit → Type 0 = λ x. IsTrue (is_among clause x) in
        record {
          found = implied es;
          each_found = found-implied ns clause [] es r tt d;
          conflict = any-at (λ k. list_all (is_refuted clause (implied es)) k) (clauses_of ns) u.0 i.clause u.1 (list_all-mono (λ x. same x l || is_false (lits es) x) (is_refuted clause (implied es)) (λ x t.
              elim (or_cases (same x l) (is_false (lits es) x) t) [
                | inl s ↦ or_left (is_among clause x) _ (subst P (sym (same-eq x l s)) m)
                | inr f ↦ refuted-by clause es x d f
              ]) i.clause i.others);
        }
