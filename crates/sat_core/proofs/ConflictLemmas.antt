-- Lemmas on where the analysis of a conflict begins and ends.
use Rattle.std.proofs.Common.{◌≡◌, ◌+◌, ◌-◌, ◌<◌, ◌≤◌, ◌⊎◌, ℕ, Bool, false, not, ◌&&◌, ◌||◌, cond, eqb, IsTrue, Option, None, Some, List, [], ◌∷◌, length, set, get_or, refl, sym, ap, subst, ◌∙◌, inl, inr, arith}
use Rattle.std.specs.List.{list_any}
use Rattle.std.proofs.lemmas.Bool.{and_parts, or_cases, eq-eqb, ltb-true, false≢true, cases_eq, not_from_true, cond-true}
use Rattle.std.proofs.lemmas.List.{get_or-set_other}
use Rattle.std.proofs.lemmas.Option.{slice_get-get_or, get_or_from_slice_get}
use Rattle.cnf.specs.declared.lit.Lit.{Lit}
use Rattle.cnf.specs.Lits.{variable, negation, same, is_among}
use Rattle.cnf.specs.Propagation.{IsForced, is_open, has_two_open}
use Rattle.cnf.proofs.ForCallers.{list_all-get, any-witness, all-among}
use Rattle.sat_trail.specs.declared.entry.Entry.{Entry}
use Rattle.sat_trail.specs.Trail.{Assignment, lits, entry_of, level_in, up_to, IsTrail}
use Rattle.sat_trail.proofs.ForCallers.{below-get, entry_of-at, variable-before, no-both, rise-top, rise-mono, decided-above, among-up_to, up_to-among}
use Rattle.sat_watch.specs.Numbered.{Numbered, clauses_of}
use Rattle.sat_watch.specs.Soundness.{is_false, RestsBelow, IsConflict}
use Rattle.sat_core.specs.Analysis.{is_marked, marked, marked_at, MarkedWithin, IsResolved}
use Rattle.sat_watch.proofs.ForCallers.{under-at}
use Rattle.sat_core.proofs.MarkLemmas.{is_of, marked_at-unset, none-marked, some-marked}
use Rattle.sat_core.proofs.ResolveLemmas.{place-within, lits-take-get}

pub top-level : (t : Assignment) (seen : List Bool) (k : ℕ) (d : Entry) → IsTrail t → MarkedWithin seen t.entries (k + 1) → k < length t.entries → 0 < marked_at seen t.level t.entries → (get_or t.entries k d).level ≡ t.level
top-level t seen k d h w b some =
    let j = some-marked seen t.level t.entries some in
    let at = j.2 d in
    let before = place-within seen t.entries (k + 1) j.0 d h.distinct w j.1 at.0 in
    let up = rise-mono 0 t.entries t.level j.0 k d h.rise (omega arith) b in
    let top = rise-top 0 t.entries t.level k d h.rise b in
    omega (arith, at.1)

pub resolved : (formula : List (List Lit)) (t : Assignment) (seen : List Bool) (k : ℕ) → IsTrail t → length seen ≡ t.vars → k < length t.entries → IsForced formula (marked seen (lits t.entries)) → ((d : Entry) → IsTrue (is_marked seen (get_or t.entries k d).lit)) → MarkedWithin seen t.entries (k + 1) → 0 < marked_at seen t.level t.entries → (marked_at seen t.level t.entries ≤ 1) ⊎ ((d : Entry) → (get_or t.entries k d).reason ≡ None) → IsResolved formula t seen k
resolved formula t seen k h size b f m w some end = record {
  place = b;
  forced = f;
  top =
      λ e q.
      let there = get_or_from_slice_get t.entries k e e q in
      let P : Entry → Type 0 = λ x. IsTrue (is_marked seen x.lit) × (x.level ≡ t.level) in
      subst P there (m e, top-level t seen k e h w b some);
  within = w;
  others =
      λ j e a q on.
      let there = get_or_from_slice_get t.entries j e e q in
      let P : Entry → Type 0 = λ x. x.level < t.level in
      let Q : Entry → Type 0 = λ x. IsTrue (is_marked seen x.lit) in
      subst P there (by_end end j e a (subst Q (sym there) on));
}
  where
    by_end : (marked_at seen t.level t.entries ≤ 1) ⊎ ((d : Entry) → (get_or t.entries k d).reason ≡ None) → (j : ℕ) (d : Entry) → j < k → IsTrue (is_marked seen (get_or t.entries j d).lit) → (get_or t.entries j d).level < t.level
    by_end (inr none) j d a on =
        let up = decided-above 0 t.entries t.level j k d h.rise a b (none d) in
        let top = rise-top 0 t.entries t.level k d h.rise b in
        omega arith
    by_end (inl one) j d a on =
        let v = variable (get_or t.entries k d).lit in
        let in_table : v < length seen = let q = ltb-true v t.vars (below-get t.vars t.entries k d h.in_range b) in omega arith in
        let entry = entry_of-at t.entries v k d h.distinct b refl in
        let off = marked_at-unset seen v t.level t.entries h.distinct (m d) in_table in
        let level : (get_or t.entries k d).level ≡ t.level = top-level t seen k d h w b some in
        let counts : ◌≡◌ {A = ℕ} (cond (is_of (level_in (entry_of t.entries v)) t.level) 1 0) 1 = counted (entry_of t.entries v) (get_or t.entries k d) entry level in
        let zero_left : marked_at (set seen v false) t.level t.entries ≡ 0 = omega arith in
        let other : variable (get_or t.entries j d).lit ≡ v → ⊥ = λ e. absurd (apart j d a e) in
        let still : IsTrue (is_marked (set seen v false) (get_or t.entries j d).lit) = get_or-set_other seen v (variable (get_or t.entries j d).lit) false false other ∙ on in
        let not_level = none-marked (set seen v false) t.level t.entries zero_left j d (omega arith) still in
        let top = rise-top 0 t.entries t.level j d h.rise (omega arith) in
        elim (cases_eq (get_or t.entries j d).level t.level) [ inl e ↦ absurd (not_level e) | inr e ↦ omega arith ]
      where
        counted : (o : Option Entry) (e : Entry) → o ≡ Some e → e.level ≡ t.level → ◌≡◌ {A = ℕ} (cond (is_of (level_in o) t.level) 1 0) 1
        counted o e q l =
            let P : Option Entry → Type 0 = λ o. ◌≡◌ {A = ℕ} (cond (is_of (level_in o) t.level) 1 0) 1 in
            subst P (sym q) (cond-true (eqb e.level t.level) 1 0 (eq-eqb _ _ l))

        apart : (j : ℕ) (d : Entry) → j < k → variable (get_or t.entries j d).lit ≡ variable (get_or t.entries k d).lit → ⊥
        apart j d a e =
            variable-before t.entries k d (get_or t.entries j d).lit h.distinct b (lits-take-get t.entries k j d a b) e

-- what a resolved conflict says of the entry at its place, and of a marked one before it
pub top-at : (formula : List (List Lit)) (t : Assignment) (seen : List Bool) (at : ℕ) (d : Entry) → IsResolved formula t seen at → IsTrue (is_marked seen (get_or t.entries at d).lit) × ((get_or t.entries at d).level ≡ t.level)
top-at formula t seen at d r = r.top (get_or t.entries at d) (slice_get-get_or t.entries at d r.place)

pub others-at : (formula : List (List Lit)) (t : Assignment) (seen : List Bool) (at j : ℕ) (d : Entry) → IsResolved formula t seen at → j < at → IsTrue (is_marked seen (get_or t.entries j d).lit) → (get_or t.entries j d).level < t.level
others-at formula t seen at j d r a on = r.others j (get_or t.entries j d) a (slice_get-get_or t.entries j d (omega (arith, r.place))) on

-- ---- a conflict has a literal of the present level

pub conflict-level : (ns : List Numbered) (t : Assignment) (at : ℕ) → IsTrail t → RestsBelow (clauses_of ns) t.entries t.level → 0 < t.level → (c : IsConflict ns (lits t.entries) at) → (x : Lit) × IsTrue (is_among c.clause x) × ((j : ℕ) × (j < length t.entries) × ((d : Entry) → ((get_or t.entries j d).lit ≡ negation x) × ((get_or t.entries j d).level ≡ t.level)))
conflict-level ns t at h rests pos c =
    let u = under-at ns at c.clause c.is_under in
    let n = t.level - 1 in
    let lower = lits (up_to n t.entries) in
    let at_rest = list_all-get (λ k. list_any (is_among lower) k || has_two_open lower k) (clauses_of ns) u.0 c.clause (rests n (omega arith)) u.1 in
    elim (or_cases (list_any (is_among lower) c.clause) (has_two_open lower c.clause) at_rest) [
      | inl t1 ↦
          let w = any-witness (is_among lower) c.clause t1 in
          absurd (no-both t w.0 h (up_to-among t.entries n w.0 w.2) (all-among (is_false (lits t.entries)) c.clause w.0 c.all_false w.1))
      | inr t2 ↦
          let w = any-witness (λ x. list_any (λ y. not (same x y) && (is_open lower x && is_open lower y)) c.clause) c.clause t2 in
          let v = any-witness (λ y. not (same w.0 y) && (is_open lower w.0 && is_open lower y)) c.clause w.2 in
          let open_w = (and_parts (is_open lower w.0) (is_open lower v.0) (and_parts (not (same w.0 v.0)) _ v.2).1).0 in
          elim (among-up_to t.entries n (negation w.0) (all-among (is_false (lits t.entries)) c.clause w.0 c.all_false w.1)) [
            | inl a ↦ absurd (false≢true (sym (not_from_true (is_among lower (negation w.0)) a) ∙ open_w))
            | inr a ↦ (w.0, w.1, (a.0, a.1, λ d. let e = a.2 d in let top = rise-top 0 t.entries t.level a.0 d h.rise a.1 in (e.0, omega (arith, e.1))))
          ]
    ]

-- no marks, none of a level
pub marked_at-clear : (seen : List Bool) (level : ℕ) (es : List Entry) → ((v : ℕ) → get_or seen v false ≡ false) → marked_at seen level es ≡ 0
marked_at-clear seen level [] h = refl
marked_at-clear seen level (x ∷ xs) h =
    let one : ◌≡◌ {A = ℕ} (cond (is_marked seen x.lit && eqb x.level level) 1 0) 0 = ap (λ b. cond (b && eqb x.level level) 1 0) (h (variable x.lit)) in
    let rest = marked_at-clear seen level xs h in
    omega arith

-- a marked entry of the level counts
pub marked_at-some : (seen : List Bool) (level : ℕ) (es : List Entry) (j : ℕ) (d : Entry) → j < length es → IsTrue (is_marked seen (get_or es j d).lit) → (get_or es j d).level ≡ level → 0 < marked_at seen level es
marked_at-some seen level es j d b m l =
    elim (cases_eq (marked_at seen level es) 0) [
      | inl z ↦ absurd (none-marked seen level es z j d b m l)
      | inr z ↦ omega arith
    ]
