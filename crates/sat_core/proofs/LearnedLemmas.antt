-- Lemmas on the watches of a learned clause.
use Rattle.std.proofs.Common.{◌≡◌, ◌≢◌, ◌+◌, ◌-◌, ◌<◌, ◌≤◌, ◌⊎◌, ℕ, Bool, false, cond, IsTrue, zero, suc, Option, None, Some, List, [], ◌∷◌, ◌++◌, length, map, take, get_or, refl, sym, ap, subst, ◌∙◌, inl, inr, arith}
use Rattle.std.specs.Prelude.{MatchOption, IfSome}
use Rattle.std.specs.List.{Contains, slice_get}
use Rattle.std.proofs.lemmas.Bool.{cases_eq, cases_Bool, cond-true, cond-false, or_cases, or_left, or_right, le-leb, false≢true, false_from_ne_true}
use Rattle.std.proofs.lemmas.List.{get_or-take, length-take-le, map_push}
use Rattle.std.proofs.lemmas.List.Elements.{Contains-push_cases}
use Rattle.std.proofs.lemmas.Option.{slice_get-get_or, slice_get_within, get_or_from_slice_get}
use Rattle.cnf.specs.declared.lit.Lit.{Lit}
use Rattle.cnf.specs.Lits.{variable, negation, same, is_among}
use Rattle.cnf.proofs.ForCallers.{same-eq, same-from_eq, negation-twice}
use Rattle.sat_trail.specs.declared.entry.Entry.{Entry}
use Rattle.sat_trail.specs.Trail.{Assignment, lits, entry_of, level_in, up_to, is_up_to, undone_to, RiseTo, IsTrail}
use Rattle.sat_trail.proofs.ForCallers.{some≢none, in_some, lit-at, entry_of-at, lits-get, variable-before, up_to-up_to, up_to-among, rise-sorted, rise-top, rise-mono, rise-up_to}
use Rattle.sat_arena.specs.Arena.{WatchedClause, WatchedClauses, indexes, clause_of, clause_at, last_or, last_unlike_or, last_watch, next_watch, new_clause, IsArena}
use Rattle.sat_core.specs.Analysis.{is_marked, marked, AreUnmarked, IsMarkedLast, IsResolved}
use Rattle.sat_watch.specs.Watches.{Backs, IsBacked, ArePresent, IsReady}
use Rattle.sat_core.specs.Analysis.{head_after}
use Rattle.sat_core.proofs.ConflictLemmas.{top-at, others-at}
use Rattle.sat_core.proofs.LearnLemmas.{IsBack}
use Rattle.sat_core.proofs.ResolveLemmas.{place-within}
use Rattle.sat_watch.proofs.ForCallers.{backs-undo, backed-less, clause_of-push, clause_of-new, trail-undone, front-same}

-- ---- the level to go back to

pub back-from : (es : List Entry) (seen : List Bool) (at back : ℕ) (o : Option ℕ) → MatchOption o (AreUnmarked es seen 0 at) (λ place. IsMarkedLast es seen place at) → MatchOption o (back ≡ 0) (λ k. (e : Entry) → slice_get es k ≡ Some e → e.level ≡ back) → IsBack es seen at back
back-from es seen at back None m l = inl l
back-from es seen at back (Some j) m l = inr (j, m.before, λ e q. (m.on e q, l e q))

-- ---- the marked literals, the last of them last

marked-none : (seen : List Bool) (es : List Entry) → ((k : ℕ) (e : Entry) → slice_get es k ≡ Some e → is_marked seen e.lit ≡ false) → marked seen (lits es) ≡ []
marked-none seen [] f = refl
marked-none seen (x ∷ xs) f = cond-false (is_marked seen x.lit) (negation x.lit ∷ marked seen (lits xs)) (marked seen (lits xs)) (f 0 x refl) ∙ marked-none seen xs (λ k e q. f (suc k) e q)

marked-split : (seen : List Bool) (es : List Entry) (k : ℕ) (d : Entry) → k < length es → IsTrue (is_marked seen (get_or es k d).lit) → ((j : ℕ) (e : Entry) → k < j → slice_get es j ≡ Some e → is_marked seen e.lit ≡ false) → marked seen (lits es) ≡ marked seen (lits (take k es)) ++ negation (get_or es k d).lit ∷ []
marked-split seen [] k d b on off = absurd (omega arith)
marked-split seen (x ∷ xs) zero d b on off =
    cond-true (is_marked seen x.lit) (negation x.lit ∷ marked seen (lits xs)) (marked seen (lits xs)) on
    ∙ ap (λ ls. negation x.lit ∷ ls) (marked-none seen xs (λ j e q. off (suc j) e (omega arith) q))
marked-split seen (x ∷ xs) (suc k) d b on off =
    let rest = marked-split seen xs k d (omega arith) on (λ j e low q. off (suc j) e (omega arith) q) in
    let l = negation (get_or xs k d).lit in
    elim (cases_Bool (is_marked seen x.lit)) [
      | inl t ↦
          cond-true (is_marked seen x.lit) (negation x.lit ∷ marked seen (lits xs)) (marked seen (lits xs)) t
          ∙ (ap (λ ls. negation x.lit ∷ ls) rest ∙ ap (λ ls. ls ++ l ∷ []) (sym (cond-true (is_marked seen x.lit) (negation x.lit ∷ marked seen (lits (take k xs))) (marked seen (lits (take k xs))) t)))
      | inr t ↦
          cond-false (is_marked seen x.lit) (negation x.lit ∷ marked seen (lits xs)) (marked seen (lits xs)) t
          ∙ (rest ∙ ap (λ ls. ls ++ l ∷ []) (sym (cond-false (is_marked seen x.lit) (negation x.lit ∷ marked seen (lits (take k xs))) (marked seen (lits (take k xs))) t)))
    ]

last_or-push : (other l : Lit) (ls : List Lit) → last_or other (ls ++ l ∷ []) ≡ l
last_or-push other l [] = refl
last_or-push other l (x ∷ xs) = last_or-push x l xs

unlike-same : (one other l : Lit) (ls : List Lit) → l ≡ one → last_unlike_or one other (ls ++ l ∷ []) ≡ last_unlike_or one other ls
unlike-same one other l [] e = cond-true (same l one) other l (same-from_eq l one e)
unlike-same one other l (x ∷ xs) e = unlike-same one (cond (same x one) other x) l xs e

unlike-other : (one other l : Lit) (ls : List Lit) → (l ≡ one → ⊥) → last_unlike_or one other (ls ++ l ∷ []) ≡ l
unlike-other one other l [] n = cond-false (same l one) other l (false_from_ne_true _ (λ s. n (same-eq l one s)))
unlike-other one other l (x ∷ xs) n = unlike-other one (cond (same x one) other x) l xs n

-- ---- the entries that are left

front-inside : (l : ℕ) (es : List Entry) (n m j : ℕ) (d : Entry) → RiseTo l es n → j < length es → (get_or es j d).level ≤ m → (j < length (up_to m es)) × ((get_or (up_to m es) j d ≡ get_or es j d) × (take j (up_to m es) ≡ take j es))
front-inside l [] n m j d h b low = absurd (omega arith)
front-inside l (x ∷ xs) n m zero d h b low =
    let is = cond-true (is_up_to m x) (x ∷ up_to m xs) (up_to m xs) (le-leb x.level m low) in
    let P : List Entry → Type 0 = λ ys. (0 < length ys) × ((get_or ys 0 d ≡ x) × (take 0 ys ≡ [])) in
    subst P (sym is) (omega arith, (refl, refl))
front-inside l (x ∷ xs) n m (suc j) d h b low =
    let rest = front-inside x.level xs n m j d h.1 (omega arith) low in
    let first = rise-sorted x.level xs n h.1 j d (omega arith) in
    let is = cond-true (is_up_to m x) (x ∷ up_to m xs) (up_to m xs) (le-leb x.level m (omega arith)) in
    let P : List Entry → Type 0 = λ ys. (suc j < length ys) × ((get_or ys (suc j) d ≡ get_or xs j d) × (take (suc j) ys ≡ x ∷ take j xs)) in
    let inside = rest.0 in
    subst P (sym is) (omega arith, (rest.1.0, ap (λ ys. x ∷ ys) rest.1.1))

front-wider : (es : List Entry) (j k : ℕ) (l : Lit) → j ≤ k → IsTrue (is_among (lits (take j es)) l) → IsTrue (is_among (lits (take k es)) l)
front-wider es zero k l b m = absurd (false≢true m)
front-wider [] (suc j) k l b m = absurd (false≢true m)
front-wider (x ∷ xs) (suc j) zero l b m = absurd (omega arith)
front-wider (x ∷ xs) (suc j) (suc k) l b m = elim (or_cases (same l x.lit) (is_among (lits (take j xs)) l) m) [ inl s ↦ or_left _ _ s | inr s ↦ or_right _ _ (front-wider xs j k l (omega arith) s) ]

-- the negation of an entry's literal is not false before the entry
not-before : (t : Assignment) (j at m : ℕ) (d : Entry) (other : Lit) → IsTrail t → j ≤ at → at < length t.entries → take j (up_to m t.entries) ≡ take j t.entries → Backs (up_to m t.entries) j (negation (get_or t.entries at d).lit) other
not-before t j at m d other h low b front n k =
    let l = (get_or t.entries at d).lit in
    let P : List Entry → Type 0 = λ es. IsTrue (is_among (lits (up_to n es)) (negation (negation l))) in
    let there = up_to-among (take j t.entries) n (negation (negation l)) (subst P front k) in
    let Q : Lit → Type 0 = λ x. IsTrue (is_among (lits (take at t.entries)) x) in
    absurd (variable-before t.entries at d l h.distinct b (subst Q (negation-twice l) (front-wider t.entries j at (negation (negation l)) low there)) refl)

-- ---- the whole step

-- the watches of the learned clause: the literal of the present level, and the last one before it
record Watching (t : Assignment) (seen : List Bool) (at : ℕ) (clause : List Lit) (o : Option ℕ) (d : Entry) : Type 0 where
  one : last_watch clause ≡ negation (get_or t.entries at d).lit
  other : MatchOption o (next_watch clause ≡ last_watch clause) (λ j. (next_watch clause ≡ negation (get_or t.entries j d).lit) × (next_watch clause ≢ last_watch clause))

watching : (formula : List (List Lit)) (t : Assignment) (seen : List Bool) (at : ℕ) (clause : List Lit) (o : Option ℕ) (d : Entry) → IsTrail t → IsResolved formula t seen at → clause ≡ marked seen (lits t.entries) → MatchOption o (AreUnmarked t.entries seen 0 at) (λ place. IsMarkedLast t.entries seen place at) → Watching t seen at clause o d
watching formula t seen at clause o d h r e m =
    let es = t.entries in
    let l = negation (get_or es at d).lit in
    let on = (top-at formula t seen at d r).0 in
    let split = marked-split seen es at d r.place on (λ j x low q.
    let w = slice_get_within es j x q in
    let is = get_or_from_slice_get es j x d q in
    false_from_ne_true _ (λ z.
    let P : Entry → Type 0 = λ y. IsTrue (is_marked seen y.lit) in
    let before = place-within seen es (at + 1) j d h.distinct r.within w (subst P (sym is) z) in
    omega arith)) in
    let whole = e ∙ split in
    let one : last_watch clause ≡ l = ap last_watch whole ∙ last_or-push (record { 0 = 0 }) l (marked seen (lits (take at es))) in
    let unlike : next_watch clause ≡ last_unlike_or l l (marked seen (lits (take at es))) = ap (λ x. last_unlike_or x x clause) one ∙ (ap (last_unlike_or l l) whole ∙ unlike-same l l l (marked seen (lits (take at es))) refl) in
    record { one = one; other = by o m one unlike }
  where
    size : length (take at t.entries) ≡ at
    size = length-take-le at t.entries (let b = r.place in omega arith)

    taken : (k : ℕ) (x : Entry) → slice_get (take at t.entries) k ≡ Some x → (k < at) × (slice_get t.entries k ≡ Some x)
    taken k x q =
        let w = slice_get_within (take at t.entries) k x q in
        let n = size in
        let b = r.place in
        let low : k < at = omega arith in
        let same_one : get_or t.entries k x ≡ x = sym (get_or-take at t.entries k x low) ∙ get_or_from_slice_get (take at t.entries) k x x q in
        (low, slice_get-get_or t.entries k x (omega arith) ∙ ap Some same_one)

    by : (o : Option ℕ) → MatchOption o (AreUnmarked t.entries seen 0 at) (λ place. IsMarkedLast t.entries seen place at) → last_watch clause ≡ negation (get_or t.entries at d).lit → next_watch clause ≡ last_unlike_or (negation (get_or t.entries at d).lit) (negation (get_or t.entries at d).lit) (marked seen (lits (take at t.entries))) → MatchOption o (next_watch clause ≡ last_watch clause) (λ j. (next_watch clause ≡ negation (get_or t.entries j d).lit) × (next_watch clause ≢ last_watch clause))
    by None m one unlike =
        let l = negation (get_or t.entries at d).lit in
        unlike ∙ (ap (last_unlike_or l l) (marked-none seen (take at t.entries) (λ k x q. let w = taken k x q in m k x (omega arith) w.0 w.1)) ∙ sym one)
    by (Some j) m one unlike =
        let es = t.entries in
        let l = negation (get_or es at d).lit in
        let b = r.place in
        let before = m.before in
        let n = size in
        let inside : j < length (take at es) = omega arith in
        let at_j : get_or (take at es) j d ≡ get_or es j d = get_or-take at es j d before in
        let x = negation (get_or es j d).lit in
        let M : Entry → Type 0 = λ y. IsTrue (is_marked seen y.lit) in
        let on = m.on (get_or es j d) (slice_get-get_or es j d (omega arith)) in
        let split = marked-split seen (take at es) j d inside (subst M (sym at_j) on) (λ k y low q. let w = taken k y q in m.behind k y (omega arith) w.0 w.1) in
        let L : Entry → Lit = λ y. negation y.lit in
        let ys = marked seen (lits (take j (take at es))) in
        let apart : x ≡ l → ⊥ = λ q.
        let lit_same : (get_or es j d).lit ≡ (get_or es at d).lit = sym (negation-twice (get_or es j d).lit) ∙ (ap negation q ∙ negation-twice (get_or es at d).lit) in
        let P : Entry → Type 0 = λ y. IsTrue (is_among (lits (take at es)) y.lit) in
        variable-before es at d (get_or es j d).lit h.distinct b (subst P at_j (lits-get (take at es) j d inside)) (ap variable lit_same) in
        let is : next_watch clause ≡ x = unlike ∙ (ap (last_unlike_or l l) (split ∙ ap (λ y. ys ++ L y ∷ []) at_j) ∙ unlike-other l l x ys apart) in
        (is, λ q. apart (sym is ∙ (q ∙ one)))

pub ready-learned : (formula : List (List Lit)) (a b : WatchedClauses) (t : Assignment) (seen : List Bool) (at back head c : ℕ) (o : Option ℕ) (clause : List Lit) → IsReady a t head → 0 < t.level → IsResolved formula t seen at → MatchOption o (AreUnmarked t.entries seen 0 at) (λ place. IsMarkedLast t.entries seen place at) → MatchOption o (back ≡ 0) (λ k. (e : Entry) → slice_get t.entries k ≡ Some e → e.level ≡ back) → clause ≡ marked seen (lits t.entries) → IsArena b → b.clauses ≡ a.clauses ++ new_clause c clause ∷ [] → (Contains (indexes a) c → ⊥) → IsReady b (undone_to t back) (head_after o (length (up_to back t.entries)))
ready-learned formula a b t seen at back head c o clause r pos res m l e arena clauses fresh =
    let d : Entry = record { lit = record { 0 = 0 }; level = 0; reason = None } in
    let w = watching formula t seen at clause o d r.trail res e m in
    let low = back-low o m l in
    let k = new_clause c clause in
    let es = up_to back t.entries in
    let is : indexes b ≡ indexes a ++ c ∷ [] = ap (map (λ (x : WatchedClause). x.index)) clauses ∙ map_push (λ (x : WatchedClause). x.index) a.clauses k in
    let known : (x : ℕ) → Contains (indexes b) x → Contains (indexes a) x ⊎ (c ≡ x) = λ x q. let P : List ℕ → Type 0 = λ zs. Contains zs x in Contains-push_cases (indexes a) c x (subst P is q) in
    let own : clause_at b c ≡ k = ap (λ ks. clause_of ks c) clauses ∙ clause_of-new a.clauses k fresh in
    let old : (x : ℕ) → Contains (indexes a) x → clause_at b x ≡ clause_at a x = λ x q. ap (λ ks. clause_of ks x) clauses ∙ clause_of-push a.clauses k x q in
    let front = front-same t head back r.trail r.present r.looked low in
    let after = head_after o (length es) in
    let tail = tails o m l low in
    record {
      arena = arena;
      trail = trail-undone t back r.trail (omega arith);
      looked = tail.0;
      present = tail.1;
      backed = λ x q two. elim (known x q) [
        | inl z ↦
            let at_old = old x z in
            let T : WatchedClause → Type 0 = λ y. y.one ≢ y.other in
            let B : WatchedClause → Type 0 = λ y. IsBacked es after y.one y.other in
            let v = r.backed x z (subst T at_old two) in
            subst B (sym at_old) (backed-less es (length es) after _ _ tail.0 (record { first = backs-undo t.entries head back _ _ front v.first; second = backs-undo t.entries head back _ _ front v.second }))
        | inr z ↦
            let T : ℕ → Type 0 = λ y. (clause_at b y).one ≢ (clause_at b y).other in
            let B : ℕ → Type 0 = λ y. IsBacked es after (clause_at b y).one (clause_at b y).other in
            let U : WatchedClause → Type 0 = λ y. y.one ≢ y.other in
            let C : WatchedClause → Type 0 = λ y. IsBacked es after y.one y.other in
            subst B z (subst C (sym own) (new_backed o m l low w (subst U own (subst T (sym z) two))))
      ];
      short = λ p x q one. elim (known x q) [
        | inl z ↦
            let at_old = old x z in
            let T : WatchedClause → Type 0 = λ y. y.one ≡ y.other in
            let B : WatchedClause → Type 0 = λ y. IsTrue (is_among (lits (up_to 0 es)) y.one) in
            let P : List Entry → Type 0 = λ ys. IsTrue (is_among (lits ys) (clause_at a x).one) in
            subst B (sym at_old) (subst P (sym (up_to-up_to t.entries 0 back (omega arith))) (r.short pos x z (subst T at_old one)))
        | inr z ↦
            let T : ℕ → Type 0 = λ y. (clause_at b y).one ≡ (clause_at b y).other in
            let U : WatchedClause → Type 0 = λ y. y.one ≡ y.other in
            absurd (not_short o l w p (subst U own (subst T (sym z) one)))
      ];
    }
  where
    back-low : (o : Option ℕ) → MatchOption o (AreUnmarked t.entries seen 0 at) (λ place. IsMarkedLast t.entries seen place at) → MatchOption o (back ≡ 0) (λ k. (e : Entry) → slice_get t.entries k ≡ Some e → e.level ≡ back) → back < t.level
    back-low None m l = omega arith
    back-low (Some j) m l =
        let d : Entry = record { lit = record { 0 = 0 }; level = 0; reason = None } in
        let b = res.place in
        let before = m.before in
        let q = slice_get-get_or t.entries j d (omega arith) in
        let lower = others-at formula t seen at j d res before (m.on (get_or t.entries j d) q) in
        let is = l (get_or t.entries j d) q in
        omega arith

    tails : (o : Option ℕ) → MatchOption o (AreUnmarked t.entries seen 0 at) (λ place. IsMarkedLast t.entries seen place at) → MatchOption o (back ≡ 0) (λ k. (e : Entry) → slice_get t.entries k ≡ Some e → e.level ≡ back) → back < t.level → (head_after o (length (up_to back t.entries)) ≤ length (up_to back t.entries)) × ArePresent (undone_to t back) (head_after o (length (up_to back t.entries)))
    tails None m l low = (omega arith, λ k x b q. absurd (let w = slice_get_within (up_to back t.entries) k x q in omega arith))
    tails (Some j) m l low =
        let d : Entry = record { lit = record { 0 = 0 }; level = 0; reason = None } in
        let b = res.place in
        let before = m.before in
        let is = l (get_or t.entries j d) (slice_get-get_or t.entries j d (omega arith)) in
        let inside = front-inside 0 t.entries t.level back j d r.trail.rise (omega arith) (omega arith) in
        let rise = rise-up_to 0 t.entries t.level back r.trail.rise (omega arith) (omega arith) in
        let first = inside.0 in (
          omega arith,
          λ k x low_k q.
              let w = slice_get_within (up_to back t.entries) k x q in
              let top = rise-top 0 (up_to back t.entries) back k d rise w in
              let mono = rise-mono 0 (up_to back t.entries) back j k d rise low_k w in
              let at_j = ap (λ (y : Entry). y.level) inside.1.0 in
              let at_k = ap (λ (y : Entry). y.level) (get_or_from_slice_get (up_to back t.entries) k x d q) in
              omega arith,
        )

    new_backed : (o : Option ℕ) → MatchOption o (AreUnmarked t.entries seen 0 at) (λ place. IsMarkedLast t.entries seen place at) → MatchOption o (back ≡ 0) (λ k. (e : Entry) → slice_get t.entries k ≡ Some e → e.level ≡ back) → back < t.level → Watching t seen at clause o (record { lit = record { 0 = 0 }; level = 0; reason = None }) → last_watch clause ≢ next_watch clause → IsBacked (up_to back t.entries) (head_after o (length (up_to back t.entries))) (last_watch clause) (next_watch clause)
    new_backed None m l low w two = absurd (two (sym w.other))
    new_backed (Some j) m l low w two =
        let d : Entry = record { lit = record { 0 = 0 }; level = 0; reason = None } in
        let b = res.place in
        let before = m.before in
        let is = l (get_or t.entries j d) (slice_get-get_or t.entries j d (omega arith)) in
        let inside = front-inside 0 t.entries t.level back j d r.trail.rise (omega arith) (omega arith) in
        let A : Lit → Type 0 = λ x. Backs (up_to back t.entries) j x (next_watch clause) in
        let B : Lit → Type 0 = λ x. Backs (up_to back t.entries) j x (last_watch clause) in
        record {
          first = subst A (sym w.one) (not-before t j at back d (next_watch clause) r.trail (omega arith) b inside.1.1);
          second = subst B (sym w.other.0) (not-before t j j back d (last_watch clause) r.trail (omega arith) (omega arith) inside.1.1);
        }

    not_short : (o : Option ℕ) → MatchOption o (back ≡ 0) (λ k. (e : Entry) → slice_get t.entries k ≡ Some e → e.level ≡ back) → Watching t seen at clause o (record { lit = record { 0 = 0 }; level = 0; reason = None }) → 0 < back → last_watch clause ≡ next_watch clause → ⊥
    not_short None l w p one = omega arith
    not_short (Some j) l w p one = w.other.1 (sym one)

pub place-inside : (es : List Entry) (seen : List Bool) (at n : ℕ) (o : Option ℕ) → MatchOption o (AreUnmarked es seen 0 at) (λ place. IsMarkedLast es seen place at) → at < n → IfSome o (λ k. k < n)
place-inside es seen at n None m b = tt
place-inside es seen at n (Some j) m b = let k = m.before in omega arith

-- ---- the last marked entry, and its level

pub unmarked-more : (es : List Entry) (seen : List Bool) (k at : ℕ) (l : Lit) → AreUnmarked es seen k at → slice_get (lits es) (k - 1) ≡ Some l → get_or seen (variable l) false ≡ false → AreUnmarked es seen (k - 1) at
unmarked-more es seen k at l u e off j x low high q =
    elim (cases_eq j (k - 1)) [
      | inl z ↦
          let P : ℕ → Type 0 = λ i. slice_get es i ≡ Some x in
          let there = subst P z q in
          let is : x.lit ≡ l = ap (λ (y : Entry). y.lit) (sym (get_or_from_slice_get es (k - 1) x x there)) ∙ lit-at es (k - 1) l x e in
          ap (λ (y : Lit). get_or seen (variable y) false) is ∙ off
      | inr n ↦ u j x (omega arith) high q
    ]

pub level-of_place : (t : Assignment) (o : Option ℕ) (k level : ℕ) (l : Lit) (v : ℕ) (found : Option ℕ) → IsTrail t → o ≡ Some k → slice_get (lits t.entries) k ≡ Some l → v ≡ variable l → found ≡ level_in (entry_of t.entries v) → found ≡ Some level → MatchOption o (level ≡ 0) (λ k. (e : Entry) → slice_get t.entries k ≡ Some e → e.level ≡ level)
level-of_place t o k level l v found h s e f g i =
    let P : Option ℕ → Type 0 = λ o. MatchOption o (level ≡ 0) (λ k. (e : Entry) → slice_get t.entries k ≡ Some e → e.level ≡ level) in
    subst P (sym s) (λ x q.
    let w = slice_get_within t.entries k x q in
    let at = get_or_from_slice_get t.entries k x x q in
    let is : (get_or t.entries k x).lit ≡ l = lit-at t.entries k l x e in
    let there = entry_of-at t.entries v k x h.distinct w (ap variable is ∙ sym f) in
    in_some (sym (ap (λ (y : Entry). Some y.level) at) ∙ (sym (ap level_in there) ∙ (sym g ∙ i))))

pub no-level : (t : Assignment) (k : ℕ) (l : Lit) (v : ℕ) (found : Option ℕ) → IsTrail t → k < length t.entries → slice_get (lits t.entries) k ≡ Some l → v ≡ variable l → found ≡ level_in (entry_of t.entries v) → found ≡ None → ⊥
no-level t k l v found h w e f g i =
    let d : Entry = record { lit = l; level = 0; reason = None } in
    let is : (get_or t.entries k d).lit ≡ l = lit-at t.entries k l d e in
    let there = entry_of-at t.entries v k d h.distinct w (ap variable is ∙ sym f) in
    some≢none (sym (ap level_in there) ∙ (sym g ∙ i))
