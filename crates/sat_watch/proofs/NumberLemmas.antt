-- Lemmas on clauses under numbers.
use Rattle.std.proofs.Common.{◌≡◌, ◌<◌, ℕ, eqb, zero, suc, Some, List, [], ◌∷◌, ◌++◌, length, map, get_or, refl, sym, ap, ◌∙◌, inl, inr, arith}
use Rattle.std.specs.List.{slice_get}
use Rattle.std.specs.Prelude.{Contains}
use Rattle.std.proofs.lemmas.Bool.{eqb-true, eqb-false, eq-eqb, ne_eqb, cases_eq, cases_Bool, cond-true, cond-false}
use Rattle.std.proofs.lemmas.List.{map_push}
use Rattle.cnf.specs.declared.lit.Lit.{Lit}
use Rattle.sat_trail.proofs.ForCallers.{some≢none, in_some}
use Rattle.sat_arena.specs.Arena.{WatchedClause, WatchedClauses, indexes, clause_lits, clause_of, clause_at, new_clause}
use Rattle.sat_watch.specs.Numbered.{Numbered, with_number, numbered, clauses_of, under}

-- a clause under a number has a place
pub under-at : (ns : List Numbered) (number : ℕ) (c : List Lit) → under ns number ≡ Some c → (k : ℕ) × (slice_get (clauses_of ns) k ≡ Some c)
under-at [] number c e = absurd (some≢none (sym e))
under-at (n ∷ ns) number c e =
    elim (cases_Bool (eqb n.number number)) [
      | inl t ↦ (0, sym (cond-true (eqb n.number number) (Some n.lits) (under ns number) t) ∙ e)
      | inr t ↦ let rest = under-at ns number c (sym (cond-false (eqb n.number number) (Some n.lits) (under ns number) t) ∙ e) in (suc rest.0, rest.1)
    ]

-- it stays there when more clauses come
pub under-append : (ns ms : List Numbered) (number : ℕ) (c : List Lit) → under ns number ≡ Some c → under (ns ++ ms) number ≡ Some c
under-append [] ms number c e = absurd (some≢none (sym e))
under-append (n ∷ ns) ms number c e =
    elim (cases_Bool (eqb n.number number)) [
      | inl t ↦ cond-true (eqb n.number number) (Some n.lits) (under (ns ++ ms) number) t ∙ (sym (cond-true (eqb n.number number) (Some n.lits) (under ns number) t) ∙ e)
      | inr t ↦
          cond-false (eqb n.number number) (Some n.lits) (under (ns ++ ms) number) t
          ∙ under-append ns ms number c (sym (cond-false (eqb n.number number) (Some n.lits) (under ns number) t) ∙ e)
    ]

pub clauses_of-push : (ns : List Numbered) (n : Numbered) → clauses_of (ns ++ n ∷ []) ≡ clauses_of ns ++ n.lits ∷ []
clauses_of-push ns n = map_push (λ (m : Numbered). m.lits) ns n

-- ---- the clauses of an arena

pub clauses_of-numbered : (a : WatchedClauses) → clauses_of (numbered a) ≡ clause_lits a
clauses_of-numbered a = same_lits a.clauses
  where
    same_lits : (ks : List WatchedClause) → clauses_of (map with_number ks) ≡ map (λ (k : WatchedClause). k.lits) ks
    same_lits [] = refl
    same_lits (k ∷ ks) = ap (λ cs. k.lits ∷ cs) (same_lits ks)

-- an arena with one more clause
pub numbered-push : (a b : WatchedClauses) (index : ℕ) (ls : List Lit) → b.clauses ≡ a.clauses ++ new_clause index ls ∷ [] → numbered b ≡ numbered a ++ record { number = index; lits = ls } ∷ []
numbered-push a b index ls e = ap (map with_number) e ∙ map_push with_number a.clauses (new_clause index ls)

-- a clause with its place
pub place-numbered : (a : WatchedClauses) (k : ℕ) (w : WatchedClause) → slice_get a.clauses k ≡ Some w → slice_get (clauses_of (numbered a)) k ≡ Some w.lits
place-numbered a k w e = at a.clauses k e
  where
    at : (ks : List WatchedClause) (k : ℕ) → slice_get ks k ≡ Some w → slice_get (clauses_of (map with_number ks)) k ≡ Some w.lits
    at [] k e = absurd (some≢none (sym e))
    at (x ∷ xs) zero e = ap (λ (y : WatchedClause). Some y.lits) (in_some e)
    at (x ∷ xs) (suc k) e = at xs k e

-- a number with a clause under it is the index of that clause
pub known-from : (a : WatchedClauses) (number : ℕ) (c : List Lit) → under (numbered a) number ≡ Some c → Contains (indexes a) number × ((clause_at a number).lits ≡ c)
known-from a number c e = from a.clauses e
  where
    from : (ks : List WatchedClause) → under (map with_number ks) number ≡ Some c → Contains (map (λ (k : WatchedClause). k.index) ks) number × ((clause_of ks number).lits ≡ c)
    from [] e = absurd (some≢none (sym e))
    from (k ∷ ks) e =
        elim (cases_Bool (eqb k.index number)) [
          | inl t ↦ (
            (0, omega arith, eqb-true k.index number t),
            ap (λ (k : WatchedClause). k.lits) (cond-true (eqb k.index number) k (clause_of ks number) t) ∙ in_some (sym (cond-true (eqb k.index number) (Some k.lits) (under (map with_number ks) number) t) ∙ e),
          )
          | inr t ↦
              let rest = from ks (sym (cond-false (eqb k.index number) (Some k.lits) (under (map with_number ks) number) t) ∙ e) in
              let there = rest.0 in (
                (suc there.0, omega (arith, there.1), there.2),
                ap (λ (k : WatchedClause). k.lits) (cond-false (eqb k.index number) k (clause_of ks number) t) ∙ rest.1,
              )
        ]

pub contains-tail : (x : ℕ) (xs : List ℕ) (c : ℕ) → Contains (x ∷ xs) c → (x ≡ c → ⊥) → Contains xs c
contains-tail x xs c m ne = at m.0 m.1 m.2
  where
    at : (k : ℕ) → k < length (x ∷ xs) → get_or (x ∷ xs) k c ≡ c → Contains xs c
    at zero b e = absurd (ne e)
    at (suc k) b e = (k, omega arith, e)

-- and under each index is its clause
pub under-index : (a : WatchedClauses) (number : ℕ) → Contains (indexes a) number → under (numbered a) number ≡ Some (clause_at a number).lits
under-index a number h = to a.clauses h
  where
    to : (ks : List WatchedClause) → Contains (map (λ (k : WatchedClause). k.index) ks) number → under (map with_number ks) number ≡ Some (clause_of ks number).lits
    to [] h = absurd (let b = h.1 in omega arith)
    to (k ∷ ks) h =
        elim (cases_Bool (eqb k.index number)) [
          | inl t ↦
              cond-true (eqb k.index number) (Some k.lits) (under (map with_number ks) number) t
              ∙ ap (λ (k : WatchedClause). Some k.lits) (sym (cond-true (eqb k.index number) k (clause_of ks number) t))
          | inr t ↦
              cond-false (eqb k.index number) (Some k.lits) (under (map with_number ks) number) t
              ∙ (to ks (contains-tail k.index (map (λ (k : WatchedClause). k.index) ks) number h (λ e. eqb-false k.index number t e))
              ∙ ap (λ (k : WatchedClause). Some k.lits) (sym (cond-false (eqb k.index number) k (clause_of ks number) t)))
        ]

-- ---- one clause more in an arena

pub clause_of-push : (ks : List WatchedClause) (k : WatchedClause) (d : ℕ) → Contains (map (λ (x : WatchedClause). x.index) ks) d → clause_of (ks ++ k ∷ []) d ≡ clause_of ks d
clause_of-push [] k d m = absurd (let b = m.1 in omega arith)
clause_of-push (x ∷ xs) k d m =
    elim (cases_eq x.index d) [
      | inl e ↦ cond-true (eqb x.index d) x (clause_of (xs ++ k ∷ []) d) (eq-eqb _ _ e) ∙ sym (cond-true (eqb x.index d) x (clause_of xs d) (eq-eqb _ _ e))
      | inr ne ↦
          cond-false (eqb x.index d) x (clause_of (xs ++ k ∷ []) d) (ne_eqb _ _ ne)
          ∙ (clause_of-push xs k d (contains-tail x.index _ d m ne) ∙ sym (cond-false (eqb x.index d) x (clause_of xs d) (ne_eqb _ _ ne)))
    ]

pub clause_of-new : (ks : List WatchedClause) (k : WatchedClause) → (Contains (map (λ (x : WatchedClause). x.index) ks) k.index → ⊥) → clause_of (ks ++ k ∷ []) k.index ≡ k
clause_of-new [] k n = cond-true (eqb k.index k.index) k (clause_of [] k.index) (eq-eqb _ _ refl)
clause_of-new (x ∷ xs) k n =
    cond-false (eqb x.index k.index) x (clause_of (xs ++ k ∷ []) k.index) (ne_eqb _ _ (λ e. n (0, omega arith, e)))
    ∙ clause_of-new xs k (λ m. let b = m.1 in n (suc m.0, omega arith, m.2))
