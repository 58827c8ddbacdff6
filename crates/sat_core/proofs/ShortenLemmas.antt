-- Lemmas on a resolved conflict that is resolved further.
use Rattle.std.proofs.Common.{◌≡◌, ◌+◌, ◌++◌, ◌<◌, ◌≤◌, ℕ, Bool, false, ◌||◌, eqb, IsTrue, zero, suc, Option, Some, List, [], ◌∷◌, length, take, get_or, sym, ap, subst, ◌∙◌, inl, inr, arith}
use Rattle.std.specs.List.{list_any, slice_get}
use Rattle.std.specs.Prelude.{Contains, MatchOption}
use Rattle.std.proofs.lemmas.Bool.{or_cases, or_left, or_right, false≢true, cases_eq, cases_Bool, cond-true, cond-false}
use Rattle.std.proofs.lemmas.Option.{slice_get-get_or, get_or_from_slice_get}
use Rattle.cnf.specs.declared.lit.Lit.{Lit}
use Rattle.cnf.specs.Lits.{variable}
use Rattle.sat_arena.specs.Arena.{WatchedClauses, indexes}
use Rattle.sat_trail.specs.declared.entry.Entry.{Entry}
use Rattle.sat_trail.specs.Trail.{Assignment, lits, entry_of, reason_in, IsTrail}
use Rattle.sat_trail.proofs.ForCallers.{variable-before, rise-mono, some≢none}
use Rattle.sat_watch.specs.Numbered.{Numbered, numbered, clauses_of, under}
use Rattle.sat_watch.specs.Soundness.{Implies, Reasoned}
use Rattle.sat_watch.proofs.ForCallers.{known-from}
use Rattle.sat_core.specs.Analysis.{is_marked, has_variable, MarkedWithin, IsResolved}
use Rattle.sat_core.proofs.ResolveLemmas.{forced-mark, before-reason, place-before, lits-take-get}

any-take-mono : (p : Entry → Bool) (es : List Entry) (k n : ℕ) → k ≤ n → IsTrue (list_any p (take k es)) → IsTrue (list_any p (take n es))
any-take-mono p es zero n b h = absurd (false≢true h)
any-take-mono p [] (suc k) n b h = absurd (false≢true h)
any-take-mono p (x ∷ xs) (suc k) zero b h = absurd (omega arith)
any-take-mono p (x ∷ xs) (suc k) (suc n) b h =
    elim (or_cases (p x) (list_any p (take k xs)) h) [
      | inl e ↦ or_left _ _ e
      | inr e ↦ or_right _ _ (any-take-mono p xs k n (omega arith) e)
    ]

-- an entry before another one has another variable
apart : (t : Assignment) (j k : ℕ) (d e : Entry) → IsTrail t → j < k → k < length t.entries → slice_get t.entries k ≡ Some e → variable e.lit ≡ variable (get_or t.entries j d).lit → ⊥
apart t j k d e h a b q same_variable =
    let there = get_or_from_slice_get t.entries k e d q in
    variable-before t.entries k d (get_or t.entries j d).lit h.distinct b (lits-take-get t.entries k j d a b) (sym same_variable ∙ ap (λ (x : Entry). variable x.lit) (sym there))

-- the others of a reason are marked in the place of a marked literal before the first implication point
pub resolved-further : (ns : List Numbered) (t : Assignment) (seen after : List Bool) (k at number : ℕ) (d : Entry) → IsTrail t → IsResolved (clauses_of ns) t seen at → k < at → IsTrue (is_marked seen (get_or t.entries k d).lit) → (i : Implies ns (lits (take k t.entries)) (get_or t.entries k d).lit number) → get_or after (variable (get_or t.entries k d).lit) false ≡ false → ((v : ℕ) → (v ≡ variable (get_or t.entries k d).lit → ⊥) → get_or after v false ≡ (get_or seen v false || has_variable i.clause v)) → IsResolved (clauses_of ns) t after at
resolved-further ns t seen after k at number d h r b on i off m = record {
  place = r.place;
  forced = forced-mark ns t.entries seen after k number d h.distinct below r.forced i m;
  top =
      λ e q.
      let old = r.top e q in
      (m (variable e.lit) (apart t k at d e h b r.place q) ∙ or_left (get_or seen (variable e.lit) false) (has_variable i.clause (variable e.lit)) old.0, old.1);
  within = within;
  others = others;
}
  where
    below : k < length t.entries
    below = let p = r.place in omega arith

    within : MarkedWithin after t.entries (at + 1)
    within v set =
        elim (cases_eq v (variable (get_or t.entries k d).lit)) [
          | inl e ↦ absurd (false≢true (sym off ∙ (ap (λ n. get_or after n false) (sym e) ∙ set)))
          | inr ne ↦
              elim (or_cases (get_or seen v false) (has_variable i.clause v) (sym (m v ne) ∙ set)) [
                | inl s ↦ r.within v s
                | inr s ↦ any-take-mono (λ (e : Entry). eqb (variable e.lit) v) t.entries k (at + 1) (omega (arith, b)) (before-reason ns t.entries k number v d i ne s)
              ]
        ]

    others : (j : ℕ) (e : Entry) → j < at → slice_get t.entries j ≡ Some e → IsTrue (is_marked after e.lit) → e.level < t.level
    others j e a q set =
        elim (cases_eq (variable e.lit) (variable (get_or t.entries k d).lit)) [
          | inl s ↦ absurd (false≢true (sym off ∙ (ap (λ n. get_or after n false) (sym s) ∙ set)))
          | inr ne ↦
              elim (or_cases (get_or seen (variable e.lit) false) (has_variable i.clause (variable e.lit)) (sym (m (variable e.lit) ne) ∙ set)) [
                | inl s ↦ r.others j e a q s
                | inr s ↦
                    let there = get_or_from_slice_get t.entries j e d q in
                    let P : Entry → Type 0 = λ x. IsTrue (list_any (λ (y : Entry). eqb (variable y.lit) (variable x.lit)) (take k t.entries)) in
                    let in_entries : j < length t.entries = let p = r.place in omega arith in
                    let before = place-before t.entries k j d h.distinct in_entries (subst P (sym there) (before-reason ns t.entries k number (variable e.lit) d i ne s)) in
                    let up = rise-mono 0 t.entries t.level j k d h.rise (omega (arith, before)) below in
                    let low = r.others k (get_or t.entries k d) b (slice_get-get_or t.entries k d below) on in
                    let Q : Entry → Type 0 = λ x. x.level < t.level in
                    subst Q there (omega (arith, up, low))
              ]
        ]

-- the number of a variable's reason is that of a clause
reasoned-under : (ns : List Numbered) (before : List Lit) (es : List Entry) (v number : ℕ) → Reasoned ns before es → Some number ≡ reason_in (entry_of es v) → (clause : List Lit) × (under ns number ≡ Some clause)
reasoned-under ns before [] v number r e = absurd (some≢none e)
reasoned-under ns before (x ∷ xs) v number r e =
    elim (cases_Bool (eqb (variable x.lit) v)) [
      | inl s ↦
          let P : Option ℕ → Type 0 = λ o. MatchOption o (Unit {0}) (λ at. Implies ns before x.lit at) in
          let i = subst P (sym (e ∙ ap reason_in (cond-true (eqb (variable x.lit) v) (Some x) (entry_of xs v) s))) r.0 in
          (i.clause, i.is_under)
      | inr s ↦ reasoned-under ns (before ++ x.lit ∷ []) xs v number r.1 (e ∙ ap reason_in (cond-false (eqb (variable x.lit) v) (Some x) (entry_of xs v) s))
    ]

pub reason-known : (a : WatchedClauses) (es : List Entry) (v number : ℕ) → Reasoned (numbered a) [] es → Some number ≡ reason_in (entry_of es v) → Contains (indexes a) number
reason-known a es v number r e =
    let u = reasoned-under (numbered a) [] es v number r e in
    (known-from a number u.0 u.1).0
