-- Lemmas on the levels of a trail's entries.
use Rattle.std.proofs.Common.{◌≡◌, ◌+◌, ◌<◌, ◌≤◌, ◌⊎◌, ℕ, Bool, true, false, cond, eqb, IsTrue, zero, suc, Option, None, Some, List, [], ◌∷◌, ◌++◌, length, take, get_or, refl, sym, ap, subst, ◌∙◌, inl, inr, arith, add-one}
use Rattle.std.specs.List.{list_all, list_any, slice_get, IsDistinct, AllByRecursion, filter}
use Rattle.std.specs.Prelude.{MatchOption}
use Rattle.std.proofs.lemmas.Bool.{or_cases, or_left, or_right, or_from, leb-true, leb-false, le-leb, lt-leb, false≢true, cases_Bool, cond-true, cond-false, false_from_ne_true}
use Rattle.std.proofs.lemmas.List.{append-nil}
use Rattle.std.proofs.lemmas.List.Elements.{filter-append}
use Rattle.std.proofs.lemmas.Map.Keys.{IsDistinct-head, IsDistinct-tail}
use Rattle.cnf.specs.declared.lit.Lit.{Lit}
use Rattle.cnf.specs.Lits.{variable, same, is_among}
use Rattle.cnf.proofs.ForCallers.{same-eq, same-refl}
use Rattle.sat_trail.specs.declared.entry.Entry.{Entry}
use Rattle.sat_trail.specs.Trail.{lits, variables, up_to, is_up_to, IsNext, RiseTo}
use Rattle.sat_trail.proofs.EntryLemmas.{head-apart, lits-get}

-- an entry is of the last level or opens one behind it
pub next-level : (l : ℕ) (e : Entry) → IsNext l e → (e.level ≡ l) ⊎ (e.level ≡ l + 1)
next-level l e h = by_reason e.reason h
  where
    by_reason : (r : Option ℕ) → Rattle.std.specs.Prelude.MatchOption r (e.level ≡ l + 1) (λ _. e.level ≡ l) → (e.level ≡ l) ⊎ (e.level ≡ l + 1)
    by_reason None h = inr h
    by_reason (Some c) h = inl h

-- one more entry
pub rise-push : (l : ℕ) (es : List Entry) (n : ℕ) (e : Entry) → RiseTo l es n → IsNext n e → RiseTo l (es ++ e ∷ []) e.level
rise-push l [] n e h k = let P : ℕ → Type 0 = λ m. IsNext m e in (subst P (sym h) k, refl)
rise-push l (x ∷ xs) n e h k = (h.0, rise-push x.level xs n e h.1 k)

-- the levels end no lower than they begin, and rise by one an entry at most
pub rise-bound : (l : ℕ) (es : List Entry) (n : ℕ) → RiseTo l es n → (l ≤ n) × (n ≤ l + length es)
rise-bound l [] n h = (omega arith, omega arith)
rise-bound l (x ∷ xs) n h =
    let rest = rise-bound x.level xs n h.1 in
    elim (next-level l x h.0) [ inl e ↦ (omega arith, omega arith) | inr e ↦ (omega arith, omega arith) ]

-- above a level that an entry is above, there is nothing further up
pub rise-none : (l : ℕ) (es : List Entry) (n m : ℕ) → RiseTo l es n → m < l → up_to m es ≡ []
rise-none l [] n m h k = refl
rise-none l (x ∷ xs) n m h k =
    let above : m < x.level = elim (next-level l x h.0) [ inl e ↦ omega arith | inr e ↦ omega arith ] in
    cond-false (is_up_to m x) (x ∷ up_to m xs) (up_to m xs) (lt-leb x.level m above) ∙ rise-none x.level xs n m h.1 above

-- the entries up to a level rise to it
pub rise-up_to : (l : ℕ) (es : List Entry) (n m : ℕ) → RiseTo l es n → l ≤ m → m ≤ n → RiseTo l (up_to m es) m
rise-up_to l [] n m h a b = omega arith
rise-up_to l (x ∷ xs) n m h a b =
    let P : List Entry → Type 0 = λ es. RiseTo l es m in
    elim (cases_Bool (is_up_to m x)) [
      | inl e ↦ subst P (sym (cond-true (is_up_to m x) (x ∷ up_to m xs) (up_to m xs) e)) (h.0, rise-up_to x.level xs n m h.1 (leb-true x.level m e) b)
      | inr e ↦
          let above = leb-false x.level m e in
          let none = rise-none x.level xs n m h.1 above in
          let top : l ≡ m = elim (next-level l x h.0) [ inl e ↦ omega arith | inr e ↦ omega arith ] in
          subst P (sym (cond-false (is_up_to m x) (x ∷ up_to m xs) (up_to m xs) e ∙ none)) top
    ]

-- no entry is below where the levels begin
pub rise-sorted : (l : ℕ) (es : List Entry) (n : ℕ) → RiseTo l es n → (k : ℕ) (d : Entry) → k < length es → l ≤ (get_or es k d).level
rise-sorted l [] n h k d b = absurd (omega arith)
rise-sorted l (x ∷ xs) n h zero d b = elim (next-level l x h.0) [ inl e ↦ omega arith | inr e ↦ omega arith ]
rise-sorted l (x ∷ xs) n h (suc k) d b =
    let rest = rise-sorted x.level xs n h.1 k d (omega arith) in
    elim (next-level l x h.0) [ inl e ↦ omega arith | inr e ↦ omega arith ]

-- no entry is above where they end
pub rise-top : (l : ℕ) (es : List Entry) (n k : ℕ) (d : Entry) → RiseTo l es n → k < length es → (get_or es k d).level ≤ n
rise-top l [] n k d h b = absurd (omega arith)
rise-top l (x ∷ xs) n zero d h b = (rise-bound x.level xs n h.1).0
rise-top l (x ∷ xs) n (suc k) d h b = rise-top x.level xs n k d h.1 (omega arith)

-- no entry is above one behind it
pub rise-mono : (l : ℕ) (es : List Entry) (n j k : ℕ) (d : Entry) → RiseTo l es n → j ≤ k → k < length es → (get_or es j d).level ≤ (get_or es k d).level
rise-mono l [] n j k d h a b = absurd (omega arith)
rise-mono l (x ∷ xs) n zero zero d h a b = omega arith
rise-mono l (x ∷ xs) n zero (suc k) d h a b = rise-sorted x.level xs n h.1 k d (omega arith)
rise-mono l (x ∷ xs) n (suc j) zero d h a b = absurd (omega arith)
rise-mono l (x ∷ xs) n (suc j) (suc k) d h a b = rise-mono x.level xs n j k d h.1 (omega arith) (omega arith)

-- a decided entry is above where the levels begin
pub decided-start : (l : ℕ) (es : List Entry) (n k : ℕ) (d : Entry) → RiseTo l es n → k < length es → (get_or es k d).reason ≡ None → l < (get_or es k d).level
decided-start l [] n k d h b r = absurd (omega arith)
decided-start l (x ∷ xs) n zero d h b r =
    let P : Option ℕ → Type 0 = λ o. MatchOption o (x.level ≡ l + 1) (λ _. x.level ≡ l) in
    let e : x.level ≡ l + 1 = subst P r h.0 in
    omega arith
decided-start l (x ∷ xs) n (suc k) d h b r =
    let rest = decided-start x.level xs n k d h.1 (omega arith) r in
    elim (next-level l x h.0) [ inl e ↦ omega arith | inr e ↦ omega arith ]

pub decided-above : (l : ℕ) (es : List Entry) (n j k : ℕ) (d : Entry) → RiseTo l es n → j < k → k < length es → (get_or es k d).reason ≡ None → (get_or es j d).level < (get_or es k d).level
decided-above l [] n j k d h a b r = absurd (omega arith)
decided-above l (x ∷ xs) n j zero d h a b r = absurd (omega arith)
decided-above l (x ∷ xs) n zero (suc k) d h a b r = decided-start x.level xs n k d h.1 (omega arith) r
decided-above l (x ∷ xs) n (suc j) (suc k) d h a b r = decided-above x.level xs n j k d h.1 (omega arith) (omega arith) r

-- ---- the entries up to a level

-- if the k-th entry is up to a level, all before it are; if it is above, all behind it are
pub up_to-take : (l : ℕ) (es : List Entry) (n m k : ℕ) (d : Entry) → RiseTo l es n → k < length es → m < (get_or es k d).level → up_to m es ≡ up_to m (take k es)
up_to-take l [] n m k d h b a = absurd (omega arith)
up_to-take l (x ∷ xs) n m zero d h b a =
    cond-false (is_up_to m x) (x ∷ up_to m xs) (up_to m xs) (lt-leb x.level m a) ∙ rise-none x.level xs n m h.1 a
up_to-take l (x ∷ xs) n m (suc k) d h b a =
    ap (λ ys. cond (is_up_to m x) (x ∷ ys) ys) (up_to-take x.level xs n m k d h.1 (omega arith) a)

-- all entries are up to the last level
pub up_to-all : (l : ℕ) (es : List Entry) (n m : ℕ) → RiseTo l es n → n ≤ m → up_to m es ≡ es
up_to-all l [] n m h b = refl
up_to-all l (x ∷ xs) n m h b =
    let up = rise-bound x.level xs n h.1 in
    cond-true (is_up_to m x) (x ∷ up_to m xs) (up_to m xs) (le-leb x.level m (omega arith)) ∙ ap (λ ys. x ∷ ys) (up_to-all x.level xs n m h.1 b)

-- the entries up to the k-th are up to its level
pub up_to-last : (l : ℕ) (es : List Entry) (n m k : ℕ) (d : Entry) → RiseTo l es n → k < length es → (get_or es k d).level ≤ m → up_to m (take (k + 1) es) ≡ take (k + 1) es
up_to-last l es n m k d h b a = rw add-one (steps l es n k h b a)
  where
    steps : (l : ℕ) (es : List Entry) (n k : ℕ) → RiseTo l es n → k < length es → (get_or es k d).level ≤ m → up_to m (take (suc k) es) ≡ take (suc k) es
    steps l [] n k h b a = absurd (omega arith)
    steps l (x ∷ xs) n zero h b a = cond-true (is_up_to m x) (x ∷ []) [] (le-leb x.level m a)
    steps l (x ∷ xs) n (suc k) h b a =
        let low = rise-sorted x.level xs n h.1 k d (omega arith) in
        cond-true (is_up_to m x) (x ∷ up_to m (take (suc k) xs)) (up_to m (take (suc k) xs)) (le-leb x.level m (omega arith)) ∙ ap (λ ys. x ∷ ys) (steps x.level xs n k h.1 (omega arith) a)

-- an entry above a level does not show below it
pub up_to-push : (n : ℕ) (es : List Entry) (e : Entry) → n < e.level → up_to n (es ++ e ∷ []) ≡ up_to n es
up_to-push n es e h =
    filter-append (is_up_to n) es (e ∷ [])
    ∙ (ap (λ xs. up_to n es ++ xs) (cond-false (is_up_to n e) (e ∷ []) [] (lt-leb e.level n h)) ∙ append-nil (up_to n es))

-- the lower of two levels decides
pub up_to-up_to : (es : List Entry) (n m : ℕ) → n ≤ m → up_to n (up_to m es) ≡ up_to n es
up_to-up_to [] n m h = refl
up_to-up_to (x ∷ xs) n m h =
    let rest = up_to-up_to xs n m h in
    elim (cases_Bool (is_up_to m x)) [
      | inl t ↦
          ap (up_to n) (cond-true (is_up_to m x) (x ∷ up_to m xs) (up_to m xs) t)
          ∙ ap (λ ys. cond (is_up_to n x) (x ∷ ys) ys) rest
      | inr t ↦
          ap (up_to n) (cond-false (is_up_to m x) (x ∷ up_to m xs) (up_to m xs) t)
          ∙ (rest ∙ sym (cond-false (is_up_to n x) (x ∷ up_to n xs) (up_to n xs) (lt-leb x.level n (let k = leb-false x.level m t in omega arith))))
    ]

-- a literal of the trail is up to a level, or above it
pub among-up_to : (es : List Entry) (n : ℕ) (l : Lit) → IsTrue (is_among (lits es) l) → IsTrue (is_among (lits (up_to n es)) l) ⊎ ((j : ℕ) × (j < length es) × ((d : Entry) → ((get_or es j d).lit ≡ l) × (n < (get_or es j d).level)))
among-up_to [] n l m = absurd (false≢true m)
among-up_to (x ∷ xs) n l m =
    let P : List Entry → Type 0 = λ ys. IsTrue (is_among (lits ys) l) in
    elim (cases_Bool (is_up_to n x)) [
      | inl t ↦
          let unfold_it = sym (cond-true (is_up_to n x) (x ∷ up_to n xs) (up_to n xs) t) in
          elim (or_cases (same l x.lit) (is_among (lits xs) l) m) [
            | inl e ↦ inl (subst P unfold_it (or_left (same l x.lit) (is_among (lits (up_to n xs)) l) e))
            | inr e ↦
                elim (among-up_to xs n l e) [
                  | inl a ↦ inl (subst P unfold_it (or_right (same l x.lit) (is_among (lits (up_to n xs)) l) a))
                  | inr a ↦ inr (suc a.0, omega (arith, a.1), a.2)
                ]
          ]
      | inr t ↦
          let unfold_it = sym (cond-false (is_up_to n x) (x ∷ up_to n xs) (up_to n xs) t) in
          elim (or_cases (same l x.lit) (is_among (lits xs) l) m) [
            | inl e ↦ inr (0, omega arith, λ d. (sym (same-eq l x.lit e), leb-false x.level n t))
            | inr e ↦
                elim (among-up_to xs n l e) [
                  | inl a ↦ inl (subst P unfold_it a)
                  | inr a ↦ inr (suc a.0, omega (arith, a.1), a.2)
                ]
          ]
    ]

-- what is true at the end of a level is true
pub up_to-among : (es : List Entry) (n : ℕ) (l : Lit) → IsTrue (is_among (lits (up_to n es)) l) → IsTrue (is_among (lits es) l)
up_to-among [] n l m = absurd (false≢true m)
up_to-among (x ∷ xs) n l m =
    let P : List Entry → Type 0 = λ ys. IsTrue (is_among (lits ys) l) in
    elim (cases_Bool (is_up_to n x)) [
      | inl t ↦
          elim (or_cases (same l x.lit) (is_among (lits (up_to n xs)) l) (subst P (cond-true (is_up_to n x) (x ∷ up_to n xs) (up_to n xs) t) m)) [
            | inl e ↦ or_left _ _ e
            | inr e ↦ or_right _ _ (up_to-among xs n l e)
          ]
      | inr t ↦ or_right _ _ (up_to-among xs n l (subst P (cond-false (is_up_to n x) (x ∷ up_to n xs) (up_to n xs) t) m))
    ]

-- the literal at a place is not true below its level
pub not-up_to : (es : List Entry) (n k : ℕ) (d : Entry) → IsDistinct eqb (variables es) → k < length es → n < (get_or es k d).level → is_among (lits (up_to n es)) (get_or es k d).lit ≡ false
not-up_to [] n k d u b a = refl
not-up_to (x ∷ xs) n zero d u b a =
    ap (λ ys. is_among (lits ys) x.lit) (cond-false (is_up_to n x) (x ∷ up_to n xs) (up_to n xs) (lt-leb x.level n a))
    ∙ false_from_ne_true _ (λ m. head-apart x xs x.lit (IsDistinct-head eqb (variable x.lit) (variables xs) u) (up_to-among xs n x.lit m) refl)
not-up_to (x ∷ xs) n (suc k) d u b a =
    let rest = not-up_to xs n k d (IsDistinct-tail eqb (variable x.lit) (variables xs) u) (omega arith) a in
    let apart : same (get_or xs k d).lit x.lit ≡ false = false_from_ne_true _ (λ s. head-apart x xs (get_or xs k d).lit (IsDistinct-head eqb (variable x.lit) (variables xs) u) (lits-get xs k d (omega arith)) (ap variable (sym (same-eq (get_or xs k d).lit x.lit s)))) in
    one (is_up_to n x) apart rest
  where
    one : (b : Bool) → same (get_or xs k d).lit x.lit ≡ false → is_among (lits (up_to n xs)) (get_or xs k d).lit ≡ false → is_among (lits (cond b (x ∷ up_to n xs) (up_to n xs))) (get_or xs k d).lit ≡ false
    one true s r = or_from _ _ s r
    one false s r = r

-- and is true from it on
pub in-up_to : (es : List Entry) (n k : ℕ) (d : Entry) → k < length es → (get_or es k d).level ≤ n → IsTrue (is_among (lits (up_to n es)) (get_or es k d).lit)
in-up_to [] n k d b a = absurd (omega arith)
in-up_to (x ∷ xs) n zero d b a =
    ap (λ ys. is_among (lits ys) x.lit) (cond-true (is_up_to n x) (x ∷ up_to n xs) (up_to n xs) (le-leb x.level n a)) ∙ or_left _ _ (same-refl x.lit)
in-up_to (x ∷ xs) n (suc k) d b a = one (is_up_to n x) (in-up_to xs n k d (omega arith) a)
  where
    one : (b : Bool) → IsTrue (is_among (lits (up_to n xs)) (get_or xs k d).lit) → IsTrue (is_among (lits (cond b (x ∷ up_to n xs) (up_to n xs))) (get_or xs k d).lit)
    one true r = or_right _ _ r
    one false r = r
