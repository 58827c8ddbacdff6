-- Lemmas on what may be logged, and what a ledger shows.
use Rattle.std.proofs.Common.{◌≡◌, ◌<◌, ℕ, Bool, true, false, not, ◌&&◌, ◌||◌, IsTrue, suc, Option, None, Some, List, [], ◌∷◌, ◌++◌, length, map, get_or, refl, sym, subst, inl, inr, arith, append_assoc}
use Rattle.std.specs.List.{list_all, list_any}
use Rattle.std.specs.Prelude.{MatchOption}
use Rattle.std.proofs.lemmas.Bool.{and_parts, and_from, or_cases, or_left, or_right, false≢true, not_from_false}
use Rattle.std.proofs.lemmas.List.{append-nil}
use Rattle.cnf.specs.declared.lit.Lit.{Lit}
use Rattle.cnf.specs.Cnf.{Cnf, Satisfies}
use Rattle.cnf.specs.Lits.{negation, same, is_among, are_below}
use Rattle.cnf.specs.Values.{value, holds, all_hold}
use Rattle.cnf.specs.Propagation.{is_refuted, finds, finds_each, IsForced, is_open, is_consistent, denies_others, has_two_open, is_at_rest, Adds, is_subsumed, IsLogged, EachLogged, IsLedger}
use Rattle.cnf.proofs.ForCallers.{list_all-append-from, list_all-mono, any-among, any-witness, any-at, among-negations, follows-from_forced}
use Rattle.sat_trail.specs.declared.entry.Entry.{Entry}
use Rattle.sat_trail.specs.Trail.{lits}
use Rattle.sat_watch.specs.Numbered.{Numbered, clauses_of}
use Rattle.sat_watch.specs.Soundness.{is_false, Implies, Reasoned, IsConflict}
use Rattle.sat_watch.specs.Nonempty.{is_nonempty}
use Rattle.sat_watch.proofs.ForCallers.{under-at}

-- a clause's literals false under the trail are refuted by it
refuted-from_false : (clause trail : List Lit) (l : Lit) → IsTrue (is_false trail l) → IsTrue (is_refuted clause trail l)
refuted-from_false clause trail l h = or_right (is_among clause l) (is_among (map negation trail) l) (among-negations trail l h)

-- ---- a conflict without decisions

-- each of the trail's literals is found, where none was decided
found-from_reasons : (ns : List Numbered) (clause before : List Lit) (es : List Entry) → Reasoned ns before es → ((k : ℕ) (d : Entry) → k < length es → (get_or es k d).reason ≡ None → ⊥) → IsTrue (finds_each (clauses_of ns) clause before (lits es))
found-from_reasons ns clause before [] r all = refl
found-from_reasons ns clause before (e ∷ es) r all =
    and_from _ _ (by_reason e.reason refl r.0) (found-from_reasons ns clause (before ++ e.lit ∷ []) es r.1 (λ k d b. all (suc k) d (omega arith)))
  where
    by_reason : (o : Option ℕ) → o ≡ e.reason → MatchOption o (Unit {0}) (λ at. Implies ns before e.lit at) → IsTrue (finds (clauses_of ns) clause before e.lit)
    by_reason None q h = absurd (all 0 e (omega arith) (sym q))
    by_reason (Some at) q h =
        let u = under-at ns at h.clause h.is_under in
        any-at (λ k. is_among k e.lit && list_all (λ l. same l e.lit || is_refuted clause before l) k) (clauses_of ns) u.0 h.clause u.1 (and_from _ _ h.holds_it (list_all-mono (λ x. same x e.lit || is_false before x) (λ l. same l e.lit || is_refuted clause before l) (λ x t.
        elim (or_cases (same x e.lit) (is_false before x) t) [
          | inl s ↦ or_left (same x e.lit) (is_refuted clause before x) s
          | inr f ↦ or_right (same x e.lit) (is_refuted clause before x) (refuted-from_false clause before x f)
        ]) h.clause h.others))

pub forced-empty : (ns : List Numbered) (es : List Entry) (at : ℕ) → Reasoned ns [] es → ((k : ℕ) (d : Entry) → k < length es → (get_or es k d).reason ≡ None → ⊥) → IsConflict ns (lits es) at → IsForced (clauses_of ns) []
forced-empty ns es at r all c =
    let u = under-at ns at c.clause c.is_under in record {
      found = lits es;
      each_found = found-from_reasons ns [] [] es r all;
      conflict =
          any-at (λ k. list_all (is_refuted [] (lits es)) k) (clauses_of ns) u.0 c.clause u.1 (list_all-mono (is_false (lits es)) (is_refuted [] (lits es)) (refuted-from_false [] (lits es)) c.clause c.all_false);
    }

-- the empty clause contains only the empty clause
pub empty-not_subsumed : (formula : List (List Lit)) → IsTrue (list_all is_nonempty formula) → IsTrue (not (is_subsumed formula []))
empty-not_subsumed [] h = refl
empty-not_subsumed (k ∷ ks) h =
    let parts = and_parts (is_nonempty k) (list_all is_nonempty ks) h in
    one k parts.0 (empty-not_subsumed ks parts.1)
  where
    one : (k : List Lit) → IsTrue (is_nonempty k) → IsTrue (not (is_subsumed ks [])) → IsTrue (not (list_all (is_among []) k || is_subsumed ks []))
    one [] h rest = absurd (false≢true h)
    one (l ∷ ls) h rest = rest

pub logged-empty : (vars : ℕ) (formula : List (List Lit)) → IsForced formula [] → IsTrue (list_all is_nonempty formula) → IsLogged vars formula []
logged-empty vars formula forced none = record {
  forced = forced;
  adds = λ h. absurd (h refl);
  in_range = refl;
  distinct = refl;
  consistent = refl;
  not_subsumed = empty-not_subsumed formula none;
}

-- one more clause of a ledger
pub logged-push : (vars : ℕ) (formula cs : List (List Lit)) (c : List Lit) → EachLogged vars formula cs → IsLogged vars (formula ++ cs) c → EachLogged vars formula (cs ++ c ∷ [])
logged-push vars formula [] c each one =
    let P : List (List Lit) → Type 0 = λ f. IsLogged vars f c in (subst P (append-nil formula) one, tt)
logged-push vars formula (d ∷ ds) c each one =
    let P : List (List Lit) → Type 0 = λ f. IsLogged vars f c in (
      each.0,
      logged-push vars (formula ++ d ∷ []) ds c each.1 (subst P (sym (append_assoc formula (d ∷ []) ds)) one),
    )

-- ---- what a ledger's clauses say

-- in every list of values that satisfies the formula, each clause of the ledger holds
pub ledger-holds : (vars : ℕ) (formula cs : List (List Lit)) (vs : List Bool) → length vs ≡ vars → IsTrue (all_hold vs formula) → EachLogged vars formula cs → IsTrue (all_hold vs cs)
ledger-holds vars formula [] vs n h each = refl
ledger-holds vars formula (c ∷ cs) vs n h each =
    let f : Cnf = record { vars = vars; clauses = formula } in
    let one = follows-from_forced f c each.0.forced vs (record { one_each = n; each_holds = h }) in
    and_from _ _ one (ledger-holds vars (formula ++ c ∷ []) cs vs n (list_all-append-from (holds vs) formula (c ∷ []) h (and_from (holds vs c) true one refl)) each.1)

pub no_values-from_empty : (f : Cnf) (cs : List (List Lit)) → IsLedger f (cs ++ [] ∷ []) → (vs : List Bool) → Satisfies vs f → ⊥
no_values-from_empty f cs each vs s = last cs (ledger-holds f.vars f.clauses (cs ++ [] ∷ []) vs s.one_each s.each_holds each)
  where
    last : (cs : List (List Lit)) → IsTrue (all_hold vs (cs ++ [] ∷ [])) → ⊥
    last [] h = false≢true h
    last (c ∷ cs) h = last cs (and_parts (holds vs c) (all_hold vs (cs ++ [] ∷ [])) h).1

-- the literals of a ledger have variables of the formula
pub logged-in_range : (vars : ℕ) (formula cs : List (List Lit)) → EachLogged vars formula cs → IsTrue (list_all (are_below vars) cs)
logged-in_range vars formula [] each = refl
logged-in_range vars formula (c ∷ cs) each = and_from _ _ each.0.in_range (logged-in_range vars (formula ++ c ∷ []) cs each.1)

-- ---- a model

-- where all is at rest and no literal is open, every clause has a true literal
pub holds-from_rest : (formula : List (List Lit)) (trail : List Lit) (vs : List Bool) → ((l : Lit) → IsTrue (is_among trail l) → IsTrue (value vs l)) → ((k : List Lit) (l : Lit) → IsTrue (list_any (λ c. list_any (same l) c) formula) → IsTrue (is_open trail l) → IsTrue (is_among trail l)) → IsTrue (is_at_rest formula trail) → IsTrue (all_hold vs formula)
holds-from_rest [] trail vs t full r = refl
holds-from_rest (k ∷ ks) trail vs t full r =
    let parts = and_parts (list_any (is_among trail) k || has_two_open trail k) (is_at_rest ks trail) r in
    and_from _ _ (one parts.0) (holds-from_rest ks trail vs t (λ c l m o. full c l (or_right (list_any (same l) k) (list_any (λ c. list_any (same l) c) ks) m) o) parts.1)
  where
    one : IsTrue (list_any (is_among trail) k || has_two_open trail k) → IsTrue (holds vs k)
    one h =
        elim (or_cases (list_any (is_among trail) k) (has_two_open trail k) h) [
          | inl a ↦ let w = any-witness (is_among trail) k a in any-among (value vs) k w.0 w.1 (t w.0 w.2)
          | inr b ↦
              let w = any-witness (λ x. list_any (λ y. not (same x y) && (is_open trail x && is_open trail y)) k) k b in
              let v = any-witness (λ y. not (same w.0 y) && (is_open trail w.0 && is_open trail y)) k w.2 in
              let open_w = (and_parts (is_open trail w.0) (is_open trail v.0) (and_parts (not (same w.0 v.0)) _ v.2).1).0 in
              any-among (value vs) k w.0 w.1 (t w.0 (full k w.0 (or_left (list_any (same w.0) k) (list_any (λ c. list_any (same w.0) c) ks) w.1) open_w))
        ]

-- ---- a clause learned from a conflict

-- it adds: under the lower levels all its literals but one are false, and that one is open
pub adds-learned : (formula : List (List Lit)) (clause lower : List Lit) (l : Lit) → IsTrue (is_among clause l) → IsTrue (denies_others clause l lower) → is_among lower l ≡ false → is_among lower (negation l) ≡ false → IsTrue (is_consistent lower) → IsTrue (is_at_rest formula lower) → Adds formula clause
adds-learned formula clause lower l m d a b c r = record {
  lit = l;
  trail = lower;
  of_clause = m;
  others_denied = d;
  lit_open = and_from _ _ (not_from_false (is_among lower l) a) (not_from_false (is_among lower (negation l)) b);
  consistent = c;
  at_rest = r;
}
