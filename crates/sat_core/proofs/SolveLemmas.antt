-- Lemmas on what the solver answers, and what each turn of it keeps.
use Rattle.std.proofs.Common.{◌≡◌, ◌≢◌, ◌+◌, ◌-◌, ◌*◌, ◌<◌, ◌≤◌, ◌⊎◌, ◌↔◌, ℕ, Bool, true, false, IsTrue, None, Some, List, [], ◌∷◌, ◌++◌, length, get_or, refl, sym, ap, subst, ◌∙◌, inl, inr, arith, append_assoc}
use Rattle.std.specs.List.{list_all, list_any}
use Rattle.std.proofs.lemmas.Bool.{and_parts, and_from, or_cases, ltb-true, false≢true, cases_Bool, not_from_true, not_from_false, cond-true, cond-false, false_from_ne_true}
use Rattle.cnf.specs.declared.lit.Lit.{Lit}
use Rattle.cnf.specs.Budgets.{IsWithin}
use Rattle.cnf.specs.Cnf.{Cnf, Satisfies}
use Rattle.cnf.specs.Lits.{variable, positive, negation, same, is_among, is_below, are_below}
use Rattle.cnf.specs.Values.{value, holds, all_hold}
use Rattle.cnf.specs.Propagation.{IsForced, is_open, is_at_rest, IsLogged}
use Rattle.cnf.proofs.ForCallers.{value-negation, value-positive, list_all-append-from, list_all-append-parts, all-among, negation-twice}
use Rattle.sat_trail.specs.declared.entry.Entry.{Entry}
use Rattle.sat_trail.specs.Trail.{Assignment, lits, value_in, IsTrail}
use Rattle.sat_trail.proofs.ForCallers.{true-from_value, no-both, rise-top, decided-start}
use Rattle.sat_arena.specs.Arena.{WatchedClauses}
use Rattle.sat_watch.specs.Numbered.{numbered, clauses_of}
use Rattle.sat_watch.specs.Soundness.{IsSound, IsConflict}
use Rattle.sat_core.specs.Search.{IsSearch}
use Rattle.sat_watch.specs.Nonempty.{is_nonempty}
use Rattle.sat_core.specs.Verdict.{Refutes}
use Rattle.sat_core.proofs.CountLemmas.{lit-cases}
use Rattle.sat_core.proofs.LedgerLemmas.{forced-empty, logged-empty, logged-push, holds-from_rest}

-- ---- a model

-- a literal with a value, or its negation, is on the trail
value-cases : (trail : List Lit) (l : Lit) → value_in trail l ≢ None → IsTrue (is_among trail l) ⊎ IsTrue (is_among trail (negation l))
value-cases trail l h =
    elim (cases_Bool (is_among trail l)) [
      | inl t ↦ inl t
      | inr t ↦
          elim (cases_Bool (is_among trail (negation l))) [
            | inl u ↦ inr u
            | inr u ↦ absurd (h (cond-false (is_among trail l) _ _ t ∙ cond-false (is_among trail (negation l)) _ _ u))
          ]
    ]

-- a variable as a literal, by its number
pub positive-number : (v : ℕ) → positive v ≡ record { 0 = 2 * v }
unfolding positive
positive-number v = refl

-- where every variable has a value, an open literal is true
full-from_values : (t : Assignment) (l : Lit) → ((v : ℕ) → v < t.vars → value_in (lits t.entries) (positive v) ≢ None) → variable l < t.vars → IsTrue (is_open (lits t.entries) l) → IsTrue (is_among (lits t.entries) l)
full-from_values t l h b o =
    let x = positive (variable l) in
    let some = value-cases (lits t.entries) x (h (variable l) b) in
    let P : Lit → Type 0 = λ y. IsTrue (is_among (lits t.entries) y) in
    let no : IsTrue (is_among (lits t.entries) (negation l)) → ⊥ = λ m. false≢true (sym (not_from_true _ m) ∙ o) in
    elim (lit-cases l) [
      | inl p ↦
          elim some [
            | inl m ↦ subst P (sym p) m
            | inr m ↦ absurd (no (subst P (ap negation (sym p)) m))
          ]
      | inr p ↦
          elim some [
            | inl m ↦ absurd (no (subst P (sym (negation-twice x) ∙ ap negation (sym p)) m))
            | inr m ↦ subst P (sym p) m
          ]
    ]

true-from_values : (t : Assignment) (vs : List Bool) (l : Lit) → IsTrail t → ((v : ℕ) → v < t.vars → (IsTrue (get_or vs v false) ↔ (value_in (lits t.entries) (positive v) ≡ Some true))) → IsTrue (is_among (lits t.entries) l) → IsTrue (value vs l)
true-from_values t vs l h vals m =
    let v = variable l in
    let b = ltb-true v t.vars (all-among (is_below t.vars) (lits t.entries) l h.in_range m) in
    let P : Lit → Type 0 = λ y. IsTrue (is_among (lits t.entries) y) in
    let Q : Lit → Type 0 = λ y. IsTrue (value vs y) in
    elim (lit-cases l) [
      | inl p ↦
          let there : IsTrue (is_among (lits t.entries) (positive v)) = subst P p m in
          let known : value_in (lits t.entries) (positive v) ≡ Some true = cond-true _ _ _ there in
          subst Q (sym p) (value-positive vs v ∙ (vals v b).1 known)
      | inr p ↦
          let off : get_or vs v false ≡ false = false_from_ne_true _ (λ on.
          let there = true-from_value (lits t.entries) (positive v) ((vals v b).0 on) in
          no-both t (positive v) h (there) (subst P p m)) in
          subst Q (sym p) (value-negation vs (positive v) ∙ not_from_false _ (value-positive vs v ∙ off))
    ]

pub model : (f : Cnf) (ledger : List (List Lit)) (cs : List (List Lit)) (t : Assignment) (vs : List Bool) → cs ≡ f.clauses ++ ledger → t.vars ≡ f.vars → IsTrue (list_all (are_below f.vars) cs) → IsTrail t → IsTrue (is_at_rest cs (lits t.entries)) → ((v : ℕ) → v < t.vars → value_in (lits t.entries) (positive v) ≢ None) → length vs ≡ f.vars → ((v : ℕ) → v < t.vars → (IsTrue (get_or vs v false) ↔ (value_in (lits t.entries) (positive v) ≡ Some true))) → Satisfies vs f
model f ledger cs t vs same_clauses tv range h rest full size vals =
    let all = holds-from_rest cs (lits t.entries) vs (λ l. true-from_values t vs l h vals) (λ k l m o. full-from_values t l full (in-formula cs l range m) o) rest in
    let P : List (List Lit) → Type 0 = λ cs. IsTrue (all_hold vs cs) in
    record {
      one_each = size;
      each_holds = (list_all-append-parts (holds vs) f.clauses ledger (subst P same_clauses all)).0;
    }
  where
    in-formula : (cs : List (List Lit)) (l : Lit) → IsTrue (list_all (are_below f.vars) cs) → IsTrue (list_any (λ c. list_any (same l) c) cs) → variable l < t.vars
    in-formula [] l r m = absurd (false≢true m)
    in-formula (c ∷ cs) l r m =
        let parts = and_parts (are_below f.vars c) (list_all (are_below f.vars) cs) r in
        elim (or_cases (is_among c l) _ m) [
          | inl e ↦ let b = ltb-true (variable l) f.vars (all-among (is_below f.vars) c l parts.0 e) in omega arith
          | inr e ↦ in-formula cs l parts.1 e
        ]

-- ---- no model

pub implied-at_zero : (t : Assignment) → IsTrail t → t.level ≡ 0 → (k : ℕ) (d : Entry) → k < length t.entries → (get_or t.entries k d).reason ≡ None → ⊥
implied-at_zero t h z k d b r =
    let low = decided-start 0 t.entries t.level k d h.rise b r in
    let top = rise-top 0 t.entries t.level k d h.rise b in
    omega arith

pub refutes : (f : Cnf) (ledger : List (List Lit)) (a : WatchedClauses) (t : Assignment) (budget conflict : ℕ) → IsSearch f ledger a t → IsTrail t → t.level ≡ 0 → IsConflict (numbered a) (lits t.entries) conflict → IsWithin budget (length ledger) → Refutes f budget (ledger ++ [] ∷ [])
refutes f ledger a t budget conflict s h z c w =
    let forced = forced-empty (numbered a) t.entries conflict s.sound.reasons (implied-at_zero t h z) c in
    let P : List (List Lit) → Type 0 = λ cs. IsForced cs [] in
    let one = logged-empty f.vars (f.clauses ++ ledger) (subst P s.same_clauses forced) (list_all-append-from is_nonempty f.clauses ledger s.nonempty_formula s.nonempty_ledger) in
    record {
      others = ledger;
      is_last = refl;
      logged = logged-push f.vars f.clauses ledger [] s.logged one;
      nonempty = s.nonempty_ledger;
      within = w;
    }

-- ---- a learned clause

-- the state with one more learned clause
pub kept : (f : Cnf) (ledger : List (List Lit)) (a after : WatchedClauses) (t u : Assignment) (c : List Lit) → IsSearch f ledger a t → IsLogged a.vars (clauses_of (numbered a)) c → IsTrue (is_nonempty c) → clauses_of (numbered after) ≡ clauses_of (numbered a) ++ c ∷ [] → after.vars ≡ a.vars → u.vars ≡ t.vars → IsSound (numbered after) u → IsSearch f (ledger ++ c ∷ []) after u
kept f ledger a after t u c s one ne e sv uv sound =
    let P : List (List Lit) → Type 0 = λ cs. IsLogged f.vars cs c in
    let Q : ℕ → Type 0 = λ n. IsLogged n (clauses_of (numbered a)) c in
    record {
      same_clauses = e ∙ (ap (λ cs. cs ++ c ∷ []) s.same_clauses ∙ append_assoc f.clauses ledger (c ∷ []));
      same_vars = sv ∙ s.same_vars;
      trail_vars = uv ∙ s.trail_vars;
      logged = logged-push f.vars f.clauses ledger c s.logged (subst P s.same_clauses (subst Q s.same_vars one));
      nonempty_formula = s.nonempty_formula;
      nonempty_ledger = list_all-append-from is_nonempty ledger (c ∷ []) s.nonempty_ledger (and_from (is_nonempty c) true ne refl);
      sound = sound;
    }

-- ---- the measure

-- what falls where one more clause is learned, whatever the trail was
pub shorter : (a v x y : ℕ) → 0 < a → x ≤ v → (a - 1) * (v + 1) + x < a * (v + 1) + y
shorter a v x y h k = less (a - 1) a v x y (omega arith) k
  where
    less : (b a v x y : ℕ) → a ≡ b + 1 → x ≤ v → b * (v + 1) + x < a * (v + 1) + y
    less b a v x y e k = grind arith
