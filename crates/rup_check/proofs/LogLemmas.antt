-- Lemmas on the steps of a log.
use Rattle.std.proofs.Common.{◌≡◌, ◌+◌, ℕ, Bool, true, false, ◌&&◌, ◌||◌, IsTrue, zero, suc, Some, List, [], ◌∷◌, ◌++◌, take, drop, refl, sym, ap, subst, ◌∙◌, inl, inr, arith, add-one, append_assoc}
use Rattle.std.specs.List.{list_all, list_any, slice_get}
use Rattle.std.proofs.lemmas.Bool.{and_parts, and_from, or_cases, or_left, or_right, false≢true}
use Rattle.std.proofs.lemmas.List.{append-nil, length-take-le}
use Rattle.std.proofs.lemmas.Option.{slice_get_within}
use Rattle.cnf.specs.declared.lit.Lit.{Lit}
use Rattle.cnf.specs.Cnf.{Cnf, Satisfies}
use Rattle.cnf.specs.Lits.{same, is_among}
use Rattle.cnf.specs.Values.{holds, all_hold}
use Rattle.cnf.specs.Propagation.{is_refuted, finds, finds_each, is_conflict, IsForced}
use Rattle.cnf.proofs.ForCallers.{list_all-append-from, list_all-mono, follows-from_forced}
use Rattle.sat_watch.specs.Nonempty.{are_nonempty}
use Rattle.sat_trail.proofs.ForCallers.{some≢none, in_some}
use Rattle.sat_watch.proofs.ForCallers.{take-at}
use Rattle.rup_check.specs.declared.log.Checked.{Checked}
use Rattle.rup_check.specs.declared.log.Checked.TheVariants.{Yes, No}
use Rattle.rup_check.specs.Checks.{EachForced, EndsEmpty, IsAtEnd, IsChecked, IsFault, IsRefutation}

-- ---- where the empty clause is forced, each clause is, with more clauses too

any-front : {X : Type 0} (p q : X → Bool) → ((x : X) → IsTrue (p x) → IsTrue (q x)) → (xs ys : List X) → IsTrue (list_any p xs) → IsTrue (list_any q (xs ++ ys))
any-front p q f [] ys h = absurd (false≢true h)
any-front p q f (x ∷ xs) ys h =
    elim (or_cases (p x) (list_any p xs) h) [
      | inl m ↦ or_left (q x) _ (f x m)
      | inr m ↦ or_right (q x) _ (any-front p q f xs ys m)
    ]

refuted-more : (clause trail : List Lit) (l : Lit) → IsTrue (is_refuted [] trail l) → IsTrue (is_refuted clause trail l)
refuted-more clause trail l h = or_right (is_among clause l) _ h

finds-more : (formula more : List (List Lit)) (clause trail : List Lit) (m : Lit) → IsTrue (finds formula [] trail m) → IsTrue (finds (formula ++ more) clause trail m)
finds-more formula more clause trail m h =
    any-front (λ k. is_among k m && list_all (λ l. same l m || is_refuted [] trail l) k) (λ k. is_among k m && list_all (λ l. same l m || is_refuted clause trail l) k) (λ k t.
    let parts = and_parts (is_among k m) (list_all (λ l. same l m || is_refuted [] trail l) k) t in
    and_from _ _ parts.0 (list_all-mono (λ l. same l m || is_refuted [] trail l) (λ l. same l m || is_refuted clause trail l) (λ l u.
    elim (or_cases (same l m) (is_refuted [] trail l) u) [
      | inl s ↦ or_left (same l m) _ s
      | inr s ↦ or_right (same l m) _ (refuted-more clause trail l s)
    ]) k parts.1)) formula more h

finds_each-more : (formula more : List (List Lit)) (clause trail ms : List Lit) → IsTrue (finds_each formula [] trail ms) → IsTrue (finds_each (formula ++ more) clause trail ms)
finds_each-more formula more clause trail [] h = refl
finds_each-more formula more clause trail (m ∷ ms) h =
    let parts = and_parts (finds formula [] trail m) (finds_each formula [] (trail ++ m ∷ []) ms) h in
    and_from _ _ (finds-more formula more clause trail m parts.0) (finds_each-more formula more clause (trail ++ m ∷ []) ms parts.1)

pub forced-more : (formula more : List (List Lit)) (clause : List Lit) → IsForced formula [] → IsForced (formula ++ more) clause
forced-more formula more clause f = record {
  found = f.found;
  each_found = finds_each-more formula more clause [] f.found f.each_found;
  conflict = any-front (λ k. list_all (is_refuted [] f.found) k) (λ k. list_all (is_refuted clause f.found) k) (λ k t. list_all-mono (is_refuted [] f.found) (is_refuted clause f.found) (refuted-more clause f.found) k t) formula more f.conflict;
}

pub each-more : (formula more steps : List (List Lit)) → IsForced formula [] → EachForced (formula ++ more) steps
each-more formula more [] f = tt
each-more formula more (s ∷ steps) f =
    let P : List (List Lit) → Type 0 = λ cs. EachForced cs steps in
    (forced-more formula more s f, subst P (sym (append_assoc formula more (s ∷ []))) (each-more formula (more ++ s ∷ []) steps f))

pub each-all : (formula steps : List (List Lit)) → IsForced formula [] → EachForced formula steps
each-all formula steps f = let P : List (List Lit) → Type 0 = λ cs. EachForced cs steps in subst P (append-nil formula) (each-more formula [] steps f)

-- ---- steps behind others

pub each-append : (formula xs ys : List (List Lit)) → EachForced formula xs → EachForced (formula ++ xs) ys → EachForced formula (xs ++ ys)
each-append formula [] ys h k = let P : List (List Lit) → Type 0 = λ cs. EachForced cs ys in subst P (append-nil formula) k
each-append formula (x ∷ xs) ys h k =
    let P : List (List Lit) → Type 0 = λ cs. EachForced cs ys in
    (h.0, each-append (formula ++ x ∷ []) xs ys h.1 (subst P (sym (append_assoc formula (x ∷ []) xs)) k))

-- ---- an empty clause

-- a formula with an empty clause forces each clause
pub forced-empty : (formula : List (List Lit)) → are_nonempty formula ≡ false → IsForced formula []
forced-empty formula h = record { found = []; each_found = refl; conflict = one formula h }
  where
    one : (cs : List (List Lit)) → are_nonempty cs ≡ false → IsTrue (is_conflict cs [] [])
    one [] h = absurd (false≢true (sym h))
    one ([] ∷ cs) h = refl
    one ((l ∷ ls) ∷ cs) h = or_right (list_all (is_refuted [] []) (l ∷ ls)) _ (one cs h)

-- ---- what a refutation shows

each-holds : (f : Cnf) (steps : List (List Lit)) (vs : List Bool) → Satisfies vs f → EachForced f.clauses steps → IsTrue (all_hold vs steps)
each-holds f [] vs s each = refl
each-holds f (c ∷ cs) vs s each =
    let one = follows-from_forced f c each.0 vs s in
    let g : Cnf = record { vars = f.vars; clauses = f.clauses ++ c ∷ [] } in
    and_from _ _ one (each-holds g cs vs (record { one_each = s.one_each; each_holds = list_all-append-from (holds vs) f.clauses (c ∷ []) s.each_holds (and_from (holds vs c) true one refl) }) each.1)

pub refutation-refutes : (f : Cnf) (steps : List (List Lit)) → IsRefutation f.clauses steps → (vs : List Bool) → Satisfies vs f → ⊥
refutation-refutes f steps r vs s = by r.empty
  where
    none : (cs : List (List Lit)) → are_nonempty cs ≡ false → IsTrue (all_hold vs cs) → ⊥
    none [] h a = false≢true (sym h)
    none ([] ∷ cs) h a = false≢true a
    none ((l ∷ ls) ∷ cs) h a = none cs h (and_parts (holds vs (l ∷ ls)) (all_hold vs cs) a).1

    last : (cs : List (List Lit)) → IsTrue (all_hold vs (cs ++ [] ∷ [])) → ⊥
    last [] h = false≢true h
    last (c ∷ cs) h = last cs (and_parts (holds vs c) (all_hold vs (cs ++ [] ∷ [])) h).1

    by : EndsEmpty f.clauses steps → ⊥
    by (inl e) = none f.clauses e s.each_holds
    by (inr e) = let P : List (List Lit) → Type 0 = λ cs. IsTrue (all_hold vs cs) in last e.0 (subst P e.1 (each-holds f steps vs s r.forced))

-- ---- the steps up to a place

parts-at : (steps : List (List Lit)) (k : ℕ) (step : List Lit) → slice_get steps k ≡ Some step → steps ≡ take k steps ++ step ∷ drop (k + 1) steps
parts-at steps k step e = rw add-one (parts steps k e)
  where
    parts : (steps : List (List Lit)) (k : ℕ) → slice_get steps k ≡ Some step → steps ≡ take k steps ++ step ∷ drop (suc k) steps
    parts [] k e = absurd (some≢none (sym e))
    parts (s ∷ steps) zero e = ap (λ x. x ∷ steps) (in_some e)
    parts (s ∷ steps) (suc k) e = ap (λ xs. s ∷ xs) (parts steps k e)

pub fault-at : (formula steps : List (List Lit)) (k : ℕ) (step : List Lit) → slice_get steps k ≡ Some step → EachForced formula (take k steps) → (IsForced (formula ++ take k steps) step → ⊥) → IsFault formula steps (k + 1)
fault-at formula steps k step e h n =
    let w = slice_get_within steps k step e in
    let size = length-take-le k steps (omega arith) in
    record {
      before = take k steps;
      step = step;
      after = drop (k + 1) steps;
      parts = parts-at steps k step e;
      counted = omega (arith, size);
      forced = h;
      not_forced = n;
    }

pub each-next : (formula steps : List (List Lit)) (k : ℕ) (step : List Lit) → slice_get steps k ≡ Some step → EachForced formula (take k steps) → IsForced (formula ++ take k steps) step → EachForced formula (take (k + 1) steps)
each-next formula steps k step e h f =
    let P : List (List Lit) → Type 0 = λ cs. EachForced formula cs in
    rw add-one (subst P (sym (take-at steps k step e)) (each-append formula (take k steps) (step ∷ []) h (f, tt)))

pub front-next : (formula steps : List (List Lit)) (k : ℕ) (step : List Lit) → slice_get steps k ≡ Some step → (formula ++ take k steps) ++ step ∷ [] ≡ formula ++ take (k + 1) steps
front-next formula steps k step e = rw add-one (append_assoc formula (take k steps) (step ∷ []) ∙ ap (λ xs. formula ++ xs) (sym (take-at steps k step e)))

-- all are forced where the empty clause is from a place on
pub each-rest : (formula steps : List (List Lit)) (k : ℕ) (step : List Lit) → slice_get steps k ≡ Some step → EachForced formula (take k steps) → IsForced (formula ++ take k steps) step → IsForced ((formula ++ take k steps) ++ step ∷ []) [] → EachForced formula steps
each-rest formula steps k step e h f empty =
    let P : List (List Lit) → Type 0 = λ cs. EachForced formula cs in
    subst P (sym (parts-at steps k step e)) (each-append formula (take k steps) (step ∷ drop (k + 1) steps) h (f, each-all ((formula ++ take k steps) ++ step ∷ []) (drop (k + 1) steps) empty))

-- ---- the answer at the end

pub at-end : (formula steps : List (List Lit)) (r : Checked) → IsTrue (are_nonempty formula) → EachForced formula steps → IsAtEnd steps r → IsChecked formula steps r
at-end formula steps Yes full h e = record { forced = h; empty = inr e }
at-end formula steps (No number) full h e = inr (record { forced = h; not_empty = not_empty; counted = e.1 })
  where
    not_empty : EndsEmpty formula steps → ⊥
    not_empty (inl z) = false≢true (sym z ∙ full)
    not_empty (inr z) = e.0 z
