-- Lemmas on how many clauses a ledger can have: each clause is another map from the variables to
-- "absent", "as it is" and "negated", and a ledger without the empty clause leaves one of these out.
use Rattle.std.proofs.Common.{◌≡◌, ◌+◌, ◌*◌, ◌%◌, ◌^◌, ◌<◌, ◌≤◌, ◌⊎◌, ℕ, Bool, true, false, cond, eqb, IsTrue, zero, suc, List, [], ◌∷◌, ◌++◌, length, map, refl, sym, subst, ◌∙◌, inl, inr, arith}
use Rattle.std.specs.List.{list_all, list_any, IsDistinct, AllByRecursion}
use Rattle.std.proofs.lemmas.Bool.{and_parts, or_cases, or_left, or_right, eqb-true, ne_eqb, ltb-true, false≢true, not_from_true, cond-true, cond-false, false_from_ne_true}
use Rattle.std.proofs.lemmas.List.{length-map}
use Rattle.std.proofs.lemmas.Map.Keys.{IsDistinct-cons}
use Rattle.std.proofs.lemmas.Map.Steps.{length-le_from_distinct_below}
use Rattle.std.proofs.Math.Nat.{pow-suc}
use Rattle.cnf.specs.declared.lit.Lit.{Lit}
use Rattle.cnf.specs.Lits.{variable, positive, negation, same, is_among, is_below, are_below}
use Rattle.cnf.specs.Propagation.{is_open, is_consistent, is_subsumed, EachLogged}
use Rattle.cnf.proofs.ForCallers.{parity, number-eq, negation-even, same-refl, all-among, all-from}
use Rattle.sat_watch.specs.Nonempty.{is_nonempty, are_nonempty}
use Rattle.sat_core.specs.Ledgers.{LedgerIsShort}

digit : List Lit → ℕ → ℕ
digit c v = cond (is_among c (positive v)) 1 (cond (is_among c (negation (positive v))) 2 0)

code : ℕ → List Lit → ℕ
code zero c = 0
code (suc n) c = 3 * code n c + digit c n

digit-below : (c : List Lit) (v : ℕ) → digit c v < 3
unfolding digit
digit-below c v = choose (is_among c (positive v)) (is_among c (negation (positive v)))
  where
    choose : (a b : Bool) → cond a 1 (cond b 2 0) < 3
    choose true b = omega arith
    choose false true = omega arith
    choose false false = omega arith

code-below : (n : ℕ) (c : List Lit) → code n c < 3 ^ n
unfolding code
code-below zero c = omega arith
code-below (suc n) c = rw pow-suc (step (code n c) (digit c n) (3 ^ n) (code-below n c) (digit-below c n))
  where
    step : (a d p : ℕ) → a < p → d < 3 → 3 * a + d < p * 3
    step a d p h k = omega arith

-- equal codes have equal digits
code-digits : (n : ℕ) (c d : List Lit) → code n c ≡ code n d → (v : ℕ) → v < n → digit c v ≡ digit d v
unfolding code
code-digits zero c d e v h = absurd (omega arith)
code-digits (suc n) c d e v h =
    let same = last (code n c) (code n d) (digit c n) (digit d n) e (digit-below c n) (digit-below d n) in
    elim (nearer v n h) [
      | inl w ↦ code-digits n c d same.0 v w
      | inr w ↦ let P : ℕ → Type 0 = λ k. digit c k ≡ digit d k in subst P (sym w) same.1
    ]
  where
    last : (a b x y : ℕ) → 3 * a + x ≡ 3 * b + y → x < 3 → y < 3 → (a ≡ b) × (x ≡ y)
    last a b x y e h k = (omega arith, omega arith)

    nearer : (v n : ℕ) → v < suc n → (v < n) ⊎ (v ≡ n)
    nearer v n h = grind arith

-- a literal is its variable, or the negation of it
pub lit-cases : (l : Lit) → (l ≡ positive (variable l)) ⊎ (l ≡ negation (positive (variable l)))
unfolding positive
lit-cases l = elim (parity l.0) [
  | inl e ↦ inl (number-eq l (positive (variable l)) (omega arith))
  | inr e ↦ let even : (positive (variable l)).0 % 2 ≡ 0 = omega arith in
      let k = negation-even (positive (variable l)) even in
      inr (number-eq l (negation (positive (variable l))) (omega arith))
]

-- what a digit says
digit-one : (c : List Lit) (v : ℕ) → digit c v ≡ 1 → IsTrue (is_among c (positive v))
unfolding digit
digit-one c v e = choose (is_among c (positive v)) (is_among c (negation (positive v))) e
  where
    choose : (a b : Bool) → ◌≡◌ {A = ℕ} (cond a 1 (cond b 2 0)) 1 → IsTrue a
    choose true b e = refl
    choose false true e = absurd (omega arith)
    choose false false e = absurd (omega arith)

digit-two : (c : List Lit) (v : ℕ) → digit c v ≡ 2 → IsTrue (is_among c (negation (positive v)))
unfolding digit
digit-two c v e = choose (is_among c (positive v)) (is_among c (negation (positive v))) e
  where
    choose : (a b : Bool) → ◌≡◌ {A = ℕ} (cond a 1 (cond b 2 0)) 2 → IsTrue b
    choose true b e = absurd (omega arith)
    choose false true e = refl
    choose false false e = absurd (omega arith)

one-digit : (c : List Lit) (v : ℕ) → IsTrue (is_among c (positive v)) → digit c v ≡ 1
unfolding digit
one-digit c v h = cond-true (is_among c (positive v)) 1 _ h

two-digit : (c : List Lit) (v : ℕ) → is_among c (positive v) ≡ false → IsTrue (is_among c (negation (positive v))) → digit c v ≡ 2
unfolding digit
two-digit c v n h = cond-false (is_among c (positive v)) 1 _ n ∙ cond-true (is_among c (negation (positive v))) 2 0 h

-- a clause in order: in range and without a literal beside its negation
abbrev IsGood : ℕ → List Lit → Type 0
IsGood n c = IsTrue (are_below n c) × IsTrue (is_consistent c)

-- clauses with equal codes contain each other
same_code-contained : (n : ℕ) (c d : List Lit) → IsGood n c → code n c ≡ code n d → IsTrue (list_all (is_among d) c)
same_code-contained n c d good e = all-from (is_among d) c one
  where
    positive_case : (l : Lit) → IsTrue (is_among c l) → variable l < n → l ≡ positive (variable l) → IsTrue (is_among d l)
    positive_case l m b p =
        let P : Lit → Type 0 = λ x. IsTrue (is_among c x) in
        let Q : Lit → Type 0 = λ x. IsTrue (is_among d x) in
        subst Q (sym p) (digit-one d (variable l) (sym (code-digits n c d e (variable l) b) ∙ one-digit c (variable l) (subst P p m)))

    negative_case : (l : Lit) → IsTrue (is_among c l) → variable l < n → l ≡ negation (positive (variable l)) → IsTrue (is_among d l)
    negative_case l m b p =
        let P : Lit → Type 0 = λ x. IsTrue (is_among c x) in
        let Q : Lit → Type 0 = λ x. IsTrue (is_among d x) in
        let there = subst P p m in
        let absent : is_among c (positive (variable l)) ≡ false = false_from_ne_true _ (λ h. false≢true (sym (not_from_true _ there) ∙ all-among (is_open c) c (positive (variable l)) good.1 h)) in
        subst Q (sym p) (digit-two d (variable l) (sym (code-digits n c d e (variable l) b) ∙ two-digit c (variable l) absent there))

    one : (l : Lit) → IsTrue (is_among c l) → IsTrue (is_among d l)
    one l m =
        let b = ltb-true (variable l) n (all-among (is_below n) c l good.0 m) in
        elim (lit-cases l) [ inl p ↦ positive_case l m b p | inr p ↦ negative_case l m b p ]

-- a clause with a literal has another code than the empty one
code-from_digit : (n : ℕ) (c : List Lit) (v : ℕ) → v < n → 0 < digit c v → 0 < code n c
unfolding code
code-from_digit zero c v h k = absurd (omega arith)
code-from_digit (suc n) c v h k =
    elim (nearer v n h) [
      | inl w ↦ let rest = code-from_digit n c v w k in omega arith
      | inr w ↦ let P : ℕ → Type 0 = λ i. 0 < digit c i in let here = subst P w k in omega arith
    ]
  where
    nearer : (v n : ℕ) → v < suc n → (v < n) ⊎ (v ≡ n)
    nearer v n h = grind arith

digit-from_among : (c : List Lit) (l : Lit) → IsTrue (is_among c l) → 0 < digit c (variable l)
unfolding digit
digit-from_among c l m =
    let P : Lit → Type 0 = λ x. IsTrue (is_among c x) in
    elim (lit-cases l) [
      | inl p ↦ choose_one (is_among c (positive (variable l))) (is_among c (negation (positive (variable l)))) (subst P p m)
      | inr p ↦ choose_two (is_among c (positive (variable l))) (is_among c (negation (positive (variable l)))) (subst P p m)
    ]
  where
    choose_one : (a b : Bool) → IsTrue a → 0 < cond a 1 (cond b 2 0)
    choose_one true b h = omega arith
    choose_one false b h = absurd (false≢true h)

    choose_two : (a b : Bool) → IsTrue b → 0 < cond a 1 (cond b 2 0)
    choose_two true b h = omega arith
    choose_two false true h = omega arith
    choose_two false false h = absurd (false≢true h)

code-positive : (n : ℕ) (c : List Lit) → IsTrue (are_below n c) → IsTrue (is_nonempty c) → 0 < code n c
code-positive n [] b ne = absurd (false≢true ne)
code-positive n (l ∷ ls) b ne =
    code-from_digit n (l ∷ ls) (variable l) (ltb-true (variable l) n (and_parts (is_below n l) (are_below n ls) b).0) (digit-from_among (l ∷ ls) l (or_left (same l l) (is_among ls l) (same-refl l)))

-- an earlier clause that no later one contains
abbrev Blocks : List (List Lit) → List Lit → Type 0
Blocks formula c = (d : List Lit) → IsTrue (list_all (is_among d) c) → IsTrue (is_subsumed formula d)

any-append_left : {X : Type 0} (p : X → Bool) (xs ys : List X) → IsTrue (list_any p xs) → IsTrue (list_any p (xs ++ ys))
any-append_left p [] ys h = absurd (false≢true h)
any-append_left p (x ∷ xs) ys h =
    elim (or_cases (p x) (list_any p xs) h) [
      | inl e ↦ or_left (p x) (list_any p (xs ++ ys)) e
      | inr e ↦ or_right (p x) (list_any p (xs ++ ys)) (any-append_left p xs ys e)
    ]

any-append_last : {X : Type 0} (p : X → Bool) (xs : List X) (x : X) → IsTrue (p x) → IsTrue (list_any p (xs ++ x ∷ []))
any-append_last p [] x h = or_left (p x) false h
any-append_last p (y ∷ ys) x h = or_right (p y) (list_any p (ys ++ x ∷ [])) (any-append_last p ys x h)

later-apart : (n : ℕ) (formula clauses : List (List Lit)) (c : List Lit) → Blocks formula c → IsGood n c → EachLogged n formula clauses → AllByRecursion (λ y. eqb (code n c) y ≡ false) (map (code n) clauses)
later-apart n formula [] c blocks good each = tt
later-apart n formula (d ∷ ds) c blocks good each = (
  ne_eqb _ _ (λ e. false≢true (sym (not_from_true _ (blocks d (same_code-contained n c d good e))) ∙ each.0.not_subsumed)),
  later-apart n (formula ++ d ∷ []) ds c (λ x h. any-append_left (λ k. list_all (is_among x) k) formula (d ∷ []) (blocks x h)) good each.1,
)

codes-distinct : (n : ℕ) (formula clauses : List (List Lit)) → EachLogged n formula clauses → IsDistinct eqb (map (code n) clauses)
unfolding IsDistinct
codes-distinct n formula [] each = tt
codes-distinct n formula (c ∷ cs) each = (
  later-apart n (formula ++ c ∷ []) cs c (λ d h. any-append_last (λ k. list_all (is_among d) k) formula c h) (each.0.in_range, each.0.consistent) each.1,
  codes-distinct n (formula ++ c ∷ []) cs each.1,
)

codes-positive : (n : ℕ) (formula clauses : List (List Lit)) → EachLogged n formula clauses → IsTrue (are_nonempty clauses) → AllByRecursion (λ y. eqb 0 y ≡ false) (map (code n) clauses)
codes-positive n formula [] each ne = tt
codes-positive n formula (c ∷ cs) each ne =
    let parts = and_parts (is_nonempty c) (are_nonempty cs) ne in (
      ne_eqb _ _ (λ e. let p = code-positive n c each.0.in_range parts.0 in omega arith),
      codes-positive n (formula ++ c ∷ []) cs each.1 parts.1,
    )

codes-below : (n : ℕ) (clauses : List (List Lit)) (q : ℕ) → IsTrue (list_any (eqb q) (map (code n) clauses)) → q < 3 ^ n
codes-below n [] q h = absurd (false≢true h)
codes-below n (c ∷ cs) q h =
    elim (or_cases (eqb q (code n c)) (list_any (eqb q) (map (code n) cs)) h) [
      | inl e ↦ let k = eqb-true q (code n c) e in let b = code-below n c in omega arith
      | inr e ↦ codes-below n cs q e
    ]

-- the codes and that of the empty clause are different numbers below 3 to the number of variables
pub short : LedgerIsShort
short f clauses each ne =
    let n = f.vars in
    let all_distinct : IsDistinct eqb (0 ∷ map (code n) clauses) = IsDistinct-cons eqb 0 (map (code n) clauses) (codes-positive n f.clauses clauses each ne) (codes-distinct n f.clauses clauses each) in
    let bound : length (0 ∷ map (code n) clauses) ≤ 3 ^ n = length-le_from_distinct_below (0 ∷ map (code n) clauses) (3 ^ n) all_distinct below in
    let same_length : length (map (code n) clauses) ≡ length clauses = simp length-map in omega arith
  where
    below : (q : ℕ) → IsTrue (list_any (eqb q) (0 ∷ map (code f.vars) clauses)) → q < 3 ^ f.vars
    below q h =
        elim (or_cases (eqb q 0) (list_any (eqb q) (map (code f.vars) clauses)) h) [
          | inl e ↦ let k = eqb-true q 0 e in let b = code-below f.vars [] in omega arith
          | inr e ↦ codes-below f.vars clauses q e
        ]
