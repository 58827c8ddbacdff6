-- Lemmas on a learned clause: it may be logged, and it keeps the search sound.
use Rattle.std.proofs.Common.{◌≡◌, ◌+◌, ◌-◌, ◌<◌, ◌≤◌, ◌⊎◌, ℕ, Bool, true, false, not, ◌&&◌, ◌||◌, cond, eqb, IsTrue, None, Some, List, [], ◌∷◌, ◌++◌, length, get_or, refl, sym, ap, subst, ◌∙◌, inl, inr, arith}
use Rattle.std.specs.List.{list_any, slice_get, IsDistinct}
use Rattle.std.proofs.lemmas.Bool.{and_parts, and_from, or_left, or_right, false≢true, cases_eq, not_from_false, false_from_ne_true}
use Rattle.std.proofs.lemmas.Map.Keys.{IsDistinct-head, IsDistinct-tail}
use Rattle.std.proofs.lemmas.Option.{slice_get-get_or}
use Rattle.cnf.specs.declared.lit.Lit.{Lit}
use Rattle.cnf.specs.Lits.{variable, negation, same, is_among, is_below, are_below}
use Rattle.cnf.specs.Propagation.{is_open, is_consistent, denies_others, has_two_open, is_at_rest, Adds, is_distinct, IsLogged}
use Rattle.cnf.proofs.ForCallers.{is_below-negation, list_all-append-from, same-eq, same-from_eq, any-among, all-from, negation-twice}
use Rattle.sat_trail.specs.declared.entry.Entry.{Entry}
use Rattle.sat_trail.specs.Trail.{Assignment, lits, variables, up_to, undone_to, IsTrail}
use Rattle.sat_trail.proofs.ForCallers.{head-apart, lits-get, among-place, no-both, rise-top, up_to-up_to, up_to-among, not-up_to, in-up_to}
use Rattle.sat_watch.specs.Numbered.{Numbered, clauses_of}
use Rattle.sat_watch.specs.Soundness.{IsSound}
use Rattle.sat_watch.specs.Nonempty.{is_nonempty}
use Rattle.sat_core.specs.Analysis.{is_marked, marked, IsResolved}
use Rattle.sat_watch.proofs.ForCallers.{clauses_of-push, negation-injective, reasoned-wider, reasoned-up_to}
use Rattle.sat_core.proofs.ForcingLemmas.{not_subsumed-from_adds}
use Rattle.sat_core.proofs.MarkLemmas.{marked-among, among-marked}
use Rattle.sat_core.proofs.ResolveLemmas.{place-within}
use Rattle.sat_core.proofs.ConflictLemmas.{top-at, others-at}
use Rattle.sat_core.proofs.LedgerLemmas.{adds-learned}

-- a level that one of the marked entries before a place is of, or 0
abbrev pub IsBack : List Entry → List Bool → ℕ → ℕ → Type 0
IsBack es seen at back =
    (back ≡ 0)
    ⊎ ((j : ℕ) × (j < at) × ((e : Entry) → slice_get es j ≡ Some e → IsTrue (is_marked seen e.lit) × (e.level ≡ back)))

-- ---- the clause by itself

pub marked-below : (n : ℕ) (seen : List Bool) (ls : List Lit) → IsTrue (are_below n ls) → IsTrue (are_below n (marked seen ls))
marked-below n seen [] h = refl
marked-below n seen (x ∷ xs) h =
    let parts = and_parts (is_below n x) (are_below n xs) h in
    let rest = marked-below n seen xs parts.1 in
    one (is_marked seen x) (is_below-negation n x parts.0) rest
  where
    one : (b : Bool) → IsTrue (is_below n (negation x)) → IsTrue (are_below n (marked seen xs)) → IsTrue (are_below n (cond b (negation x ∷ marked seen xs) (marked seen xs)))
    one true h r = and_from _ _ h r
    one false h r = r

pub marked-distinct : (seen : List Bool) (es : List Entry) → IsDistinct eqb (variables es) → IsTrue (is_distinct (marked seen (lits es)))
marked-distinct seen [] d = refl
marked-distinct seen (x ∷ xs) d =
    let rest = marked-distinct seen xs (IsDistinct-tail eqb (variable x.lit) (variables xs) d) in
    one (is_marked seen x.lit) rest absent
  where
    absent : is_among (marked seen (lits xs)) (negation x.lit) ≡ false
    absent =
        false_from_ne_true _ (λ m.
        let w = among-marked seen (lits xs) (negation x.lit) m in
        head-apart x xs w.0 (IsDistinct-head eqb (variable x.lit) (variables xs) d) w.2 (ap variable (negation-injective x.lit w.0 w.1)))

    one : (b : Bool) → IsTrue (is_distinct (marked seen (lits xs))) → is_among (marked seen (lits xs)) (negation x.lit) ≡ false → IsTrue (is_distinct (cond b (negation x.lit ∷ marked seen (lits xs)) (marked seen (lits xs))))
    one true r a = and_from _ _ (not_from_false _ a) r
    one false r a = r

pub marked-consistent : (seen : List Bool) (t : Assignment) → IsTrail t → IsTrue (is_consistent (marked seen (lits t.entries)))
marked-consistent seen t h =
    all-from (is_open (marked seen (lits t.entries))) (marked seen (lits t.entries)) (λ l m.
    not_from_false (is_among (marked seen (lits t.entries)) (negation l)) (false_from_ne_true _ (λ n.
    let y = among-marked seen (lits t.entries) l m in
    let z = among-marked seen (lits t.entries) (negation l) n in
    let l_is_z = negation-injective l z.0 z.1 in
    let P : Lit → Type 0 = λ x. IsTrue (is_among (lits t.entries) x) in
    no-both t y.0 h y.2 (subst P (sym l_is_z ∙ y.1) z.2))))

-- ---- the clause may be logged

pub adds-marked : (ns : List Numbered) (t : Assignment) (seen : List Bool) (at : ℕ) (d : Entry) → IsTrail t → IsSound ns t → 0 < t.level → IsResolved (clauses_of ns) t seen at → Adds (clauses_of ns) (marked seen (lits t.entries))
adds-marked ns t seen at d h s pos r =
    let n = t.level - 1 in
    let l = (get_or t.entries at d).lit in
    let top = top-at (clauses_of ns) t seen at d r in
    let absent = not-up_to t.entries n at d h.distinct r.place (omega (arith, top.1)) in
    let other : is_among (lits (up_to n t.entries)) (negation l) ≡ false = false_from_ne_true _ (λ m. no-both t l h (lits-get t.entries at d r.place) (up_to-among t.entries n (negation l) m)) in
    let P : Lit → Type 0 = λ x. is_among (lits (up_to n t.entries)) x ≡ false in
    adds-learned (clauses_of ns) (marked seen (lits t.entries)) (lits (up_to n t.entries)) (negation l) (marked-among seen (lits t.entries) l (lits-get t.entries at d r.place) top.0) denied other (subst P (sym (negation-twice l)) absent) consistent (s.rests n (omega arith))
  where
    denied : IsTrue (denies_others (marked seen (lits t.entries)) (negation (get_or t.entries at d).lit) (lits (up_to (t.level - 1) t.entries)))
    denied = all-from (λ m. same m (negation (get_or t.entries at d).lit) || is_among (lits (up_to (t.level - 1) t.entries)) (negation m)) (marked seen (lits t.entries)) (λ m i.
        let y = among-marked seen (lits t.entries) m i in
        let j = among-place t.entries y.0 y.2 in
        let e = j.2 d in
        let Q : Lit → Type 0 = λ x. IsTrue (is_marked seen x) in
        let on : IsTrue (is_marked seen (get_or t.entries j.0 d).lit) = subst Q (sym e) y.3 in
        let before = place-within seen t.entries (at + 1) j.0 d h.distinct r.within j.1 on in
        elim (cases_eq j.0 at) [
          | inl same_place ↦
              let R : ℕ → Type 0 = λ k. m ≡ negation (get_or t.entries k d).lit in
              or_left _ _ (same-from_eq m (negation (get_or t.entries at d).lit) (subst R same_place (y.1 ∙ ap negation (sym e))))
          | inr other_place ↦
              let low = others-at (clauses_of ns) t seen at j.0 d r (omega arith) on in
              let S : Lit → Type 0 = λ x. IsTrue (is_among (lits (up_to (t.level - 1) t.entries)) x) in
              or_right _ _ (subst S (e ∙ (sym (negation-twice y.0) ∙ ap negation (sym y.1))) (in-up_to t.entries (t.level - 1) j.0 d j.1 (omega arith)))
        ])

    consistent : IsTrue (is_consistent (lits (up_to (t.level - 1) t.entries)))
    consistent = all-from (is_open (lits (up_to (t.level - 1) t.entries))) (lits (up_to (t.level - 1) t.entries)) (λ l m.
        not_from_false (is_among (lits (up_to (t.level - 1) t.entries)) (negation l)) (false_from_ne_true _ (λ n.
        no-both t l h (up_to-among t.entries (t.level - 1) l m) (up_to-among t.entries (t.level - 1) (negation l) n))))

pub logged-marked : (ns : List Numbered) (t : Assignment) (seen : List Bool) (at : ℕ) → IsTrail t → IsSound ns t → 0 < t.level → IsResolved (clauses_of ns) t seen at → IsLogged t.vars (clauses_of ns) (marked seen (lits t.entries))
logged-marked ns t seen at h s pos r =
    let d : Entry = record { lit = record { 0 = 0 }; level = 0; reason = None } in
    let a = adds-marked ns t seen at d h s pos r in
    record {
      forced = r.forced;
      adds = λ _. a;
      in_range = marked-below t.vars seen (lits t.entries) h.in_range;
      distinct = marked-distinct seen t.entries h.distinct;
      consistent = marked-consistent seen t h;
      not_subsumed = not_subsumed-from_adds (clauses_of ns) (marked seen (lits t.entries)) a;
    }

pub nonempty-marked : (formula : List (List Lit)) (t : Assignment) (seen : List Bool) (at : ℕ) → IsResolved formula t seen at → IsTrue (is_nonempty (marked seen (lits t.entries)))
nonempty-marked formula t seen at r =
    let d : Entry = record { lit = record { 0 = 0 }; level = 0; reason = None } in
    some (marked seen (lits t.entries)) (negation (get_or t.entries at d).lit) (marked-among seen (lits t.entries) (get_or t.entries at d).lit (lits-get t.entries at d r.place) (top-at formula t seen at d r).0)
  where
    some : (ls : List Lit) (l : Lit) → IsTrue (is_among ls l) → IsTrue (is_nonempty ls)
    some [] l m = absurd (false≢true m)
    some (x ∷ xs) l m = refl

-- ---- after the levels are taken back

-- the clause has two open literals below the level to go back to
two_open-marked : (formula : List (List Lit)) (t : Assignment) (seen : List Bool) (at back n : ℕ) (d : Entry) → IsTrail t → IsResolved formula t seen at → IsBack t.entries seen at back → n < back → IsTrue (has_two_open (lits (up_to n t.entries)) (marked seen (lits t.entries)))
two_open-marked formula t seen at back n d h r (inl z) k = absurd (omega arith)
two_open-marked formula t seen at back n d h r (inr j) k =
    let below : j.0 < length t.entries = omega (arith, j.1, r.place) in
    let low = j.2 (get_or t.entries j.0 d) (slice_get-get_or t.entries j.0 d below) in
    let top = top-at formula t seen at d r in
    let a = (get_or t.entries j.0 d).lit in
    let b = (get_or t.entries at d).lit in
    let up = rise-top 0 t.entries t.level j.0 d h.rise below in
    let absent_a = not-up_to t.entries n j.0 d h.distinct below (omega (arith, low.1)) in
    let absent_b = not-up_to t.entries n at d h.distinct r.place (omega (arith, low.1, top.1)) in
    let P : Lit → Type 0 = λ x. is_among (lits (up_to n t.entries)) x ≡ false in
    let open_a : IsTrue (is_open (lits (up_to n t.entries)) (negation a)) = not_from_false _ (subst P (sym (negation-twice a)) absent_a) in
    let open_b : IsTrue (is_open (lits (up_to n t.entries)) (negation b)) = not_from_false _ (subst P (sym (negation-twice b)) absent_b) in
    let lower = others-at formula t seen at j.0 d r j.1 low.0 in
    let apart : same (negation a) (negation b) ≡ false = false_from_ne_true _ (λ s. levels_apart (negation-injective a b (same-eq (negation a) (negation b) s)) (omega (arith, lower, top.1))) in
    let has_a = marked-among seen (lits t.entries) a (lits-get t.entries j.0 d below) low.0 in
    let has_b = marked-among seen (lits t.entries) b (lits-get t.entries at d r.place) top.0 in
    any-among (λ x. list_any (λ y. not (same x y) && (is_open (lits (up_to n t.entries)) x && is_open (lits (up_to n t.entries)) y)) (marked seen (lits t.entries))) (marked seen (lits t.entries)) (negation a) has_a (any-among (λ y. not (same (negation a) y) && (is_open (lits (up_to n t.entries)) (negation a) && is_open (lits (up_to n t.entries)) y)) (marked seen (lits t.entries)) (negation b) has_b (and_from _ _ (not_from_false _ apart) (and_from _ _ open_a open_b)))
  where
    -- entries of two levels have two literals
    levels_apart : (get_or t.entries j.0 d).lit ≡ (get_or t.entries at d).lit → (get_or t.entries j.0 d).level < (get_or t.entries at d).level → ⊥
    levels_apart e lt =
        let b : j.0 < length t.entries = omega (arith, j.1, r.place) in
        let low = in-up_to t.entries (get_or t.entries j.0 d).level j.0 d b (omega arith) in
        let high = not-up_to t.entries (get_or t.entries j.0 d).level at d h.distinct r.place lt in
        let P : Lit → Type 0 = λ x. IsTrue (is_among (lits (up_to (get_or t.entries j.0 d).level t.entries)) x) in
        false≢true (sym high ∙ subst P e low)

pub sound-learned : (ns : List Numbered) (n1 : Numbered) (t : Assignment) (seen : List Bool) (at back : ℕ) → IsTrail t → IsSound ns t → IsResolved (clauses_of ns) t seen at → IsBack t.entries seen at back → back ≤ t.level → n1.lits ≡ marked seen (lits t.entries) → IsSound (ns ++ n1 ∷ []) (undone_to t back)
sound-learned ns n1 t seen at back h s r b low e =
    let d : Entry = record { lit = record { 0 = 0 }; level = 0; reason = None } in
    let clause = marked seen (lits t.entries) in
    let formula = clauses_of ns in
    let more : clauses_of (ns ++ n1 ∷ []) ≡ formula ++ clause ∷ [] = clauses_of-push ns n1 ∙ ap (λ c. formula ++ c ∷ []) e in
    record {
      reasons = reasoned-wider ns (n1 ∷ []) [] (up_to back t.entries) (reasoned-up_to ns [] 0 t.entries t.level back h.rise s.reasons);
      rests =
          λ n k.
          let P : List Entry → Type 0 = λ es. IsTrue (is_at_rest (formula ++ clause ∷ []) (lits es)) in
          let Q : List (List Lit) → Type 0 = λ cs. IsTrue (is_at_rest cs (lits (up_to n (up_to back t.entries)))) in
          let two = two_open-marked formula t seen at back n d h r b k in
          subst Q (sym more) (subst P (sym (up_to-up_to t.entries n back (omega arith))) (list_all-append-from (λ k. list_any (is_among (lits (up_to n t.entries))) k || has_two_open (lits (up_to n t.entries)) k) formula (clause ∷ []) (s.rests n (omega arith)) (and_from _ true (or_right _ _ two) refl)));
    }

pub back-le : (formula : List (List Lit)) (t : Assignment) (seen : List Bool) (at back : ℕ) → IsTrail t → IsResolved formula t seen at → IsBack t.entries seen at back → back ≤ t.level
back-le formula t seen at back h r (inl z) = omega arith
back-le formula t seen at back h r (inr j) =
    let d : Entry = record { lit = record { 0 = 0 }; level = 0; reason = None } in
    let below : j.0 < length t.entries = omega (arith, j.1, r.place) in
    let up = rise-top 0 t.entries t.level j.0 d h.rise below in
    omega (arith, (j.2 (get_or t.entries j.0 d) (slice_get-get_or t.entries j.0 d below)).1)
