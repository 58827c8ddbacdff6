-- Lemmas on the analysis of a conflict: the clause of the marked literals stays forced.
use Rattle.std.proofs.Common.{◌≡◌, ◌+◌, ◌<◌, ◌≤◌, ◌⊎◌, ℕ, Bool, false, ◌||◌, eqb, IsTrue, zero, suc, Option, Some, List, [], ◌∷◌, ◌++◌, length, take, get_or, refl, sym, ap, subst, ◌∙◌, inl, inr, arith, append_assoc}
use Rattle.std.specs.List.{list_all, list_any, IsDistinct, AllByRecursion}
use Rattle.std.specs.Prelude.{MatchOption}
use Rattle.std.proofs.lemmas.Bool.{or_cases, or_left, or_right, eqb-true, eq-eqb, eqb-false, false≢true, cases_eq, cases_lt}
use Rattle.std.proofs.lemmas.List.{take_more, append-nil}
use Rattle.std.proofs.lemmas.Map.Keys.{IsDistinct-head, IsDistinct-tail}
use Rattle.cnf.specs.declared.lit.Lit.{Lit}
use Rattle.cnf.specs.Lits.{variable, negation, same, is_among}
use Rattle.cnf.specs.Propagation.{IsForced}
use Rattle.cnf.proofs.ForCallers.{variable-negation, same-eq, same-refl, same-from_eq, any-among, any-witness, all-among, all-from, negation-twice}
use Rattle.sat_trail.specs.declared.entry.Entry.{Entry}
use Rattle.sat_trail.specs.Trail.{Assignment, lits, variables, entry_of, reason_in, IsTrail}
use Rattle.sat_trail.proofs.ForCallers.{one-literal, lits-take, lits-get, variable-before, entry_of-at}
use Rattle.sat_watch.specs.Numbered.{Numbered, clauses_of}
use Rattle.sat_watch.specs.Soundness.{is_false, Implies, Reasoned, IsConflict, IsSound}
use Rattle.sat_core.specs.Analysis.{is_marked, marked, has_variable, MarkedWithin}
use Rattle.sat_watch.proofs.ForCallers.{under-at}
use Rattle.sat_core.proofs.ForcingLemmas.{forced-start, forced-resolve}
use Rattle.sat_core.proofs.MarkLemmas.{marked-among, among-marked, among-variable}

-- ---- the first clause

-- the reason of the entry at a place
pub reasoned-get : (ns : List Numbered) (before : List Lit) (es : List Entry) (k at : ℕ) (d : Entry) → Reasoned ns before es → k < length es → (get_or es k d).reason ≡ Some at → Implies ns (before ++ lits (take k es)) (get_or es k d).lit at
reasoned-get ns before [] k at d r b e = absurd (omega arith)
reasoned-get ns before (x ∷ xs) zero at d r b e =
    let P : Option ℕ → Type 0 = λ o. MatchOption o (Unit {0}) (λ at. Implies ns before x.lit at) in
    let Q : List Lit → Type 0 = λ b. Implies ns b x.lit at in
    subst Q (sym (append-nil before)) (subst P e r.0)
reasoned-get ns before (x ∷ xs) (suc k) at d r b e =
    let Q : List Lit → Type 0 = λ b. Implies ns b (get_or xs k d).lit at in
    subst Q (append_assoc before (x.lit ∷ []) (lits (take k xs))) (reasoned-get ns (before ++ x.lit ∷ []) xs k at d r.1 (omega arith) e)

-- the same, as the trail tells it
pub reason-at : (ns : List Numbered) (t : Assignment) (k at : ℕ) (d : Entry) → IsTrail t → IsSound ns t → k < length t.entries → Some at ≡ reason_in (entry_of t.entries (variable (get_or t.entries k d).lit)) → Implies ns (lits (take k t.entries)) (get_or t.entries k d).lit at
reason-at ns t k at d h s b e =
    let there = entry_of-at t.entries (variable (get_or t.entries k d).lit) k d h.distinct b refl in
    reasoned-get ns [] t.entries k at d s.reasons b (sym (e ∙ ap reason_in there))

pub variable-has : (clause : List Lit) (x : Lit) → IsTrue (is_among clause x) → IsTrue (has_variable clause (variable x))
variable-has clause x m = any-among (λ l. eqb (variable l) (variable x)) clause x m (eq-eqb _ _ refl)

pub forced-conflict : (ns : List Numbered) (es : List Entry) (seen : List Bool) (at : ℕ) (c : IsConflict ns (lits es) at) → ((v : ℕ) → IsTrue (has_variable c.clause v) → IsTrue (get_or seen v false)) → IsForced (clauses_of ns) (marked seen (lits es))
forced-conflict ns es seen at c m =
    let u = under-at ns at c.clause c.is_under in
    forced-start (clauses_of ns) (marked seen (lits es)) c.clause u.0 u.1 (all-from (is_among (marked seen (lits es))) c.clause (λ x h.
    let there = all-among (is_false (lits es)) c.clause x c.all_false h in
    let P : Lit → Type 0 = λ y. IsTrue (is_among (marked seen (lits es)) y) in
    let Q : ℕ → Type 0 = λ v. IsTrue (get_or seen v false) in
    subst P (negation-twice x) (marked-among seen (lits es) (negation x) there (subst Q (sym (variable-negation x)) (m (variable x) (variable-has c.clause x h))))))

-- ---- one step down

-- the clause's literals are marked in the place of the one that it implied
pub forced-mark : (ns : List Numbered) (es : List Entry) (seen after : List Bool) (k at : ℕ) (d : Entry) → IsDistinct eqb (variables es) → k < length es → IsForced (clauses_of ns) (marked seen (lits es)) → (i : Implies ns (lits (take k es)) (get_or es k d).lit at) → ((v : ℕ) → (v ≡ variable (get_or es k d).lit → ⊥) → get_or after v false ≡ (get_or seen v false || has_variable i.clause v)) → IsForced (clauses_of ns) (marked after (lits es))
forced-mark ns es seen after k at d u b f i m =
    let w = under-at ns at i.clause i.is_under in
    forced-resolve (clauses_of ns) (marked seen (lits es)) (marked after (lits es)) i.clause (get_or es k d).lit w.0 f w.1 i.holds_it others kept
  where
    others : IsTrue (list_all (λ x. same x (get_or es k d).lit || is_among (marked after (lits es)) x) i.clause)
    others = all-from (λ x. same x (get_or es k d).lit || is_among (marked after (lits es)) x) i.clause (λ x h.
        elim (or_cases (same x (get_or es k d).lit) (is_false (lits (take k es)) x) (all-among (λ x. same x (get_or es k d).lit || is_false (lits (take k es)) x) i.clause x i.others h)) [
          | inl s ↦ or_left _ _ s
          | inr s ↦
              let apart : variable x ≡ variable (get_or es k d).lit → ⊥ = λ e. variable-before es k d (negation x) u b s (variable-negation x ∙ e) in
              let on : IsTrue (get_or after (variable x) false) = m (variable x) apart ∙ or_right (get_or seen (variable x) false) (has_variable i.clause (variable x)) (variable-has i.clause x h) in
              let P : Lit → Type 0 = λ y. IsTrue (is_among (marked after (lits es)) y) in
              let Q : ℕ → Type 0 = λ v. IsTrue (get_or after v false) in
              or_right _ _ (subst P (negation-twice x) (marked-among after (lits es) (negation x) (lits-take es k (negation x) s) (subst Q (sym (variable-negation x)) on)))
        ])

    kept : IsTrue (list_all (λ x. same x (negation (get_or es k d).lit) || is_among (marked after (lits es)) x) (marked seen (lits es)))
    kept = all-from (λ x. same x (negation (get_or es k d).lit) || is_among (marked after (lits es)) x) (marked seen (lits es)) (λ x h.
        let w = among-marked seen (lits es) x h in
        elim (cases_eq (variable w.0) (variable (get_or es k d).lit)) [
          | inl s ↦ or_left _ _ (same-from_eq x (negation (get_or es k d).lit) (w.1 ∙ ap negation (one-literal es w.0 (get_or es k d).lit u w.2 (lits-get es k d b) s)))
          | inr s ↦
              let on : IsTrue (get_or after (variable w.0) false) = m (variable w.0) s ∙ or_left (get_or seen (variable w.0) false) (has_variable i.clause (variable w.0)) w.3 in
              let P : Lit → Type 0 = λ y. IsTrue (is_among (marked after (lits es)) y) in
              or_right _ _ (subst P (sym w.1) (marked-among after (lits es) w.0 w.2 on))
        ])

-- ---- where the marks are

-- each variable of a false clause has an entry
pub within-false : (es : List Entry) (clause : List Lit) (v : ℕ) → IsTrue (list_all (is_false (lits es)) clause) → IsTrue (has_variable clause v) → IsTrue (list_any (λ (e : Entry). eqb (variable e.lit) v) es)
within-false es clause v f h =
    let w = any-witness (λ l. eqb (variable l) v) clause h in
    let there = all-among (is_false (lits es)) clause w.0 f w.1 in
    let e = variable-negation w.0 ∙ eqb-true (variable w.0) v w.2 in
    let P : ℕ → Type 0 = λ n. IsTrue (list_any (λ (e : Entry). eqb (variable e.lit) n) es) in
    subst P e (among-variable es (negation w.0) there)

pub any-take_more : (es : List Entry) (k : ℕ) (d : Entry) (v : ℕ) → k < length es → IsTrue (list_any (λ (e : Entry). eqb (variable e.lit) v) (take (k + 1) es)) → IsTrue (list_any (λ (e : Entry). eqb (variable e.lit) v) (take k es)) ⊎ (v ≡ variable (get_or es k d).lit)
any-take_more es k d v b h =
    let P : List Entry → Type 0 = λ xs. IsTrue (list_any (λ (e : Entry). eqb (variable e.lit) v) xs) in
    split (take k es) (get_or es k d) (subst P (take_more es k d b) h)
  where
    split : (xs : List Entry) (y : Entry) → IsTrue (list_any (λ (e : Entry). eqb (variable e.lit) v) (xs ++ y ∷ [])) → IsTrue (list_any (λ (e : Entry). eqb (variable e.lit) v) xs) ⊎ (v ≡ variable y.lit)
    split [] y h = elim (or_cases (eqb (variable y.lit) v) false h) [ inl e ↦ inr (sym (eqb-true _ _ e)) | inr e ↦ absurd (false≢true e) ]
    split (x ∷ xs) y h =
        elim (or_cases (eqb (variable x.lit) v) _ h) [
          | inl e ↦ inl (or_left _ _ e)
          | inr e ↦ elim (split xs y e) [ inl a ↦ inl (or_right _ _ a) | inr a ↦ inr a ]
        ]

-- an entry that is not marked is passed
pub within-pass : (seen : List Bool) (es : List Entry) (k : ℕ) (d : Entry) → k < length es → get_or seen (variable (get_or es k d).lit) false ≡ false → MarkedWithin seen es (k + 1) → MarkedWithin seen es k
within-pass seen es k d b n w v h =
    elim (any-take_more es k d v b (w v h)) [
      | inl a ↦ a
      | inr a ↦ absurd (false≢true (sym n ∙ (ap (λ i. get_or seen i false) (sym a) ∙ h)))
    ]

-- another variable of the clause that implied an entry is that of one before it
pub before-reason : (ns : List Numbered) (es : List Entry) (k at v : ℕ) (d : Entry) → (i : Implies ns (lits (take k es)) (get_or es k d).lit at) → (v ≡ variable (get_or es k d).lit → ⊥) → IsTrue (has_variable i.clause v) → IsTrue (list_any (λ (e : Entry). eqb (variable e.lit) v) (take k es))
before-reason ns es k at v d i ne s =
    let x = any-witness (λ l. eqb (variable l) v) i.clause s in
    elim (or_cases (same x.0 (get_or es k d).lit) (is_false (lits (take k es)) x.0) (all-among (λ x. same x (get_or es k d).lit || is_false (lits (take k es)) x) i.clause x.0 i.others x.1)) [
      | inl q ↦ absurd (ne (sym (eqb-true (variable x.0) v x.2) ∙ ap variable (same-eq x.0 (get_or es k d).lit q)))
      | inr q ↦
          let e = variable-negation x.0 ∙ eqb-true (variable x.0) v x.2 in
          let P : ℕ → Type 0 = λ n. IsTrue (list_any (λ (e : Entry). eqb (variable e.lit) n) (take k es)) in
          subst P e (among-variable (take k es) (negation x.0) q)
    ]

pub within-mark : (ns : List Numbered) (es : List Entry) (seen after : List Bool) (k at : ℕ) (d : Entry) → k < length es → (i : Implies ns (lits (take k es)) (get_or es k d).lit at) → MarkedWithin seen es (k + 1) → get_or after (variable (get_or es k d).lit) false ≡ false → ((v : ℕ) → (v ≡ variable (get_or es k d).lit → ⊥) → get_or after v false ≡ (get_or seen v false || has_variable i.clause v)) → MarkedWithin after es k
within-mark ns es seen after k at d b i w off m v h =
    elim (cases_eq v (variable (get_or es k d).lit)) [
      | inl e ↦ absurd (false≢true (sym off ∙ (ap (λ n. get_or after n false) (sym e) ∙ h)))
      | inr ne ↦
          elim (or_cases (get_or seen v false) (has_variable i.clause v) (sym (m v ne) ∙ h)) [
            | inl s ↦ elim (any-take_more es k d v b (w v s)) [ inl a ↦ a | inr a ↦ absurd (ne a) ]
            | inr s ↦ before-reason ns es k at v d i ne s
          ]
    ]

-- an entry whose variable is that of one of the first is among them
pub place-before : (es : List Entry) (k j : ℕ) (d : Entry) → IsDistinct eqb (variables es) → j < length es → IsTrue (list_any (λ (e : Entry). eqb (variable e.lit) (variable (get_or es j d).lit)) (take k es)) → j < k
place-before es k j d u b h =
    elim (cases_lt j k) [
      | inl l ↦ l
      | inr l ↦ absurd (search_in es k j u b l h)
    ]
  where
    apart_at : (x : Entry) (xs : List Entry) (j : ℕ) → AllByRecursion (λ y. eqb (variable x.lit) y ≡ false) (variables xs) → j < length xs → variable x.lit ≡ variable (get_or xs j d).lit → ⊥
    apart_at x [] j a b e = omega arith
    apart_at x (y ∷ ys) zero a b e = eqb-false _ _ a.0 e
    apart_at x (y ∷ ys) (suc j) a b e = apart_at x ys j a.1 (omega arith) e

    search_in : (es : List Entry) (k j : ℕ) → IsDistinct eqb (variables es) → j < length es → k ≤ j → IsTrue (list_any (λ (e : Entry). eqb (variable e.lit) (variable (get_or es j d).lit)) (take k es)) → ⊥
    search_in es zero j u b h a = false≢true a
    search_in [] (suc k) j u b h a = omega arith
    search_in (x ∷ xs) (suc k) zero u b h a = omega arith
    search_in (x ∷ xs) (suc k) (suc j) u b h a =
        elim (or_cases (eqb (variable x.lit) (variable (get_or xs j d).lit)) _ a) [
          | inl e ↦ apart_at x xs j (IsDistinct-head eqb (variable x.lit) (variables xs) u) (omega arith) (eqb-true _ _ e)
          | inr e ↦ search_in xs k j (IsDistinct-tail eqb (variable x.lit) (variables xs) u) (omega arith) (omega arith) e
        ]

-- a marked entry is among the first
pub place-within : (seen : List Bool) (es : List Entry) (k j : ℕ) (d : Entry) → IsDistinct eqb (variables es) → MarkedWithin seen es k → j < length es → IsTrue (is_marked seen (get_or es j d).lit) → j < k
place-within seen es k j d u w b m = place-before es k j d u b (w (variable (get_or es j d).lit) m)

-- an earlier entry is among those before a later one
pub lits-take-get : (es : List Entry) (k j : ℕ) (d : Entry) → j < k → k < length es → IsTrue (is_among (lits (take k es)) (get_or es j d).lit)
lits-take-get [] k j d a b = absurd (omega arith)
lits-take-get (x ∷ xs) zero j d a b = absurd (omega arith)
lits-take-get (x ∷ xs) (suc k) zero d a b = or_left _ _ (same-refl x.lit)
lits-take-get (x ∷ xs) (suc k) (suc j) d a b = or_right _ _ (lits-take-get xs k j d (omega arith) (omega arith))
