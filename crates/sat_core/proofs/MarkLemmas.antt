-- Lemmas on marks of variables, the marked literals of a trail, and how many of a level there are.
use Rattle.std.proofs.Common.{◌≡◌, ◌+◌, ◌<◌, ◌≤◌, ◌⊎◌, ℕ, Bool, true, false, ◌&&◌, ◌||◌, cond, eqb, IsTrue, zero, suc, Option, None, Some, List, [], ◌∷◌, ◌++◌, length, take, set, get_or, refl, sym, ap, subst, ◌∙◌, inl, inr, arith}
use Rattle.std.specs.List.{list_any, IsDistinct, AllByRecursion}
use Rattle.std.proofs.lemmas.Bool.{and_parts, or_cases, or_left, or_right, eqb-true, eq-eqb, eqb-false, ne_eqb, false≢true, cases_Bool, cases_eq, cond-true, cond-false}
use Rattle.std.proofs.lemmas.List.{length-set, set-set, set-get_or, get_or-set_same, get_or-set_other, take_more}
use Rattle.std.proofs.lemmas.Map.Keys.{IsDistinct-head, IsDistinct-tail}
use Rattle.cnf.specs.declared.lit.Lit.{Lit}
use Rattle.cnf.specs.Lits.{variable, negation, same, is_among}
use Rattle.cnf.proofs.ForCallers.{same-eq, same-refl, same-from_eq}
use Rattle.sat_trail.specs.declared.entry.Entry.{Entry}
use Rattle.sat_trail.specs.Trail.{lits, variables, entry_of, level_in}
use Rattle.sat_core.specs.Analysis.{is_marked, marked, one_marked, marked_at, has_variable}

pub marked-among : (seen : List Bool) (ls : List Lit) (l : Lit) → IsTrue (is_among ls l) → IsTrue (is_marked seen l) → IsTrue (is_among (marked seen ls) (negation l))
marked-among seen [] l m h = absurd (false≢true m)
marked-among seen (x ∷ xs) l m h =
    let P : List Lit → Type 0 = λ ls. IsTrue (is_among ls (negation l)) in
    elim (or_cases (same l x) (is_among xs l) m) [
      | inl e ↦
          let Q : Lit → Type 0 = λ y. IsTrue (is_marked seen y) in
          let here = subst Q (same-eq l x e) h in
          subst P (sym (cond-true (is_marked seen x) (negation x ∷ marked seen xs) (marked seen xs) here)) (or_left _ _ (same-from_eq (negation l) (negation x) (ap negation (same-eq l x e))))
      | inr e ↦
          let rest = marked-among seen xs l e h in
          elim (cases_Bool (is_marked seen x)) [
            | inl t ↦ subst P (sym (cond-true (is_marked seen x) (negation x ∷ marked seen xs) (marked seen xs) t)) (or_right _ _ rest)
            | inr t ↦ subst P (sym (cond-false (is_marked seen x) (negation x ∷ marked seen xs) (marked seen xs) t)) rest
          ]
    ]

pub among-marked : (seen : List Bool) (ls : List Lit) (l : Lit) → IsTrue (is_among (marked seen ls) l) → (y : Lit) × (l ≡ negation y) × IsTrue (is_among ls y) × IsTrue (is_marked seen y)
among-marked seen [] l m = absurd (false≢true m)
among-marked seen (x ∷ xs) l m =
    let P : List Lit → Type 0 = λ ls. IsTrue (is_among ls l) in
    elim (cases_Bool (is_marked seen x)) [
      | inl t ↦
          elim (or_cases (same l (negation x)) (is_among (marked seen xs) l) (subst P (cond-true (is_marked seen x) (negation x ∷ marked seen xs) (marked seen xs) t) m)) [
            | inl e ↦ (x, same-eq l (negation x) e, or_left (same x x) (is_among xs x) (same-refl x), t)
            | inr e ↦ let w = among-marked seen xs l e in (w.0, w.1, or_right (same w.0 x) (is_among xs w.0) w.2, w.3)
          ]
      | inr t ↦ let w = among-marked seen xs l (subst P (cond-false (is_marked seen x) (negation x ∷ marked seen xs) (marked seen xs) t) m) in (w.0, w.1, or_right (same w.0 x) (is_among xs w.0) w.2, w.3)
    ]

-- one variable has one literal on the trail
pub among-variable : (es : List Entry) (l : Lit) → IsTrue (is_among (lits es) l) → IsTrue (list_any (λ (e : Entry). eqb (variable e.lit) (variable l)) es)
among-variable [] l m = absurd (false≢true m)
among-variable (x ∷ xs) l m =
    elim (or_cases (same l x.lit) (is_among (lits xs) l) m) [
      | inl e ↦ or_left _ _ (eq-eqb _ _ (ap variable (sym (same-eq l x.lit e))))
      | inr e ↦ or_right _ _ (among-variable xs l e)
    ]

pub marked_at-le : (seen : List Bool) (level : ℕ) (es : List Entry) → marked_at seen level es ≤ length es
marked_at-le seen level [] = omega arith
marked_at-le seen level (e ∷ es) =
    let rest = marked_at-le seen level es in
    let one = small (is_marked seen e.lit) (eqb e.level level) in
    omega arith
  where
    small : (a b : Bool) → cond (a && b) 1 0 ≤ 1
    small true true = omega arith
    small true false = omega arith
    small false b = omega arith

-- a mark on another variable changes nothing
one_marked-other : (seen : List Bool) (v : ℕ) (b : Bool) (level : ℕ) (e : Entry) → (variable e.lit ≡ v → ⊥) → one_marked (set seen v b) level e ≡ one_marked seen level e
one_marked-other seen v b level e ne = ap (λ m. cond (m && eqb e.level level) 1 0) (get_or-set_other seen v (variable e.lit) b false ne)

marked_at-other : (seen : List Bool) (v : ℕ) (b : Bool) (level : ℕ) (es : List Entry) → AllByRecursion (λ y. eqb v y ≡ false) (variables es) → marked_at (set seen v b) level es ≡ marked_at seen level es
marked_at-other seen v b level [] a = refl
marked_at-other seen v b level (e ∷ es) a =
    let one = one_marked-other seen v b level e (λ h. eqb-false v (variable e.lit) a.0 (sym h)) in
    let rest = marked_at-other seen v b level es a.1 in
    omega arith

-- whether the entry of a variable is of the level
abbrev pub is_of : Option ℕ → ℕ → Bool
is_of None level = false
is_of (Some n) level = eqb n level

-- a new mark counts where its variable's entry is of the level
pub marked_at-set : (seen : List Bool) (v level : ℕ) (es : List Entry) → IsDistinct eqb (variables es) → get_or seen v false ≡ false → v < length seen → marked_at (set seen v true) level es ≡ marked_at seen level es + cond (is_of (level_in (entry_of es v)) level) 1 0
marked_at-set seen v level [] d f b = omega arith
marked_at-set seen v level (e ∷ es) d f b =
    elim (cases_Bool (eqb (variable e.lit) v)) [
      | inl t ↦
          let same_variable = eqb-true (variable e.lit) v t in
          let head = IsDistinct-head eqb (variable e.lit) (variables es) d in
          let Q : ℕ → Type 0 = λ w. AllByRecursion (λ y. eqb w y ≡ false) (variables es) in
          let rest = marked_at-other seen v true level es (subst Q same_variable head) in
          let now : is_marked (set seen v true) e.lit ≡ true = ap (λ w. get_or (set seen v true) w false) same_variable ∙ get_or-set_same seen v true false b in
          let before : is_marked seen e.lit ≡ false = ap (λ w. get_or seen w false) same_variable ∙ f in
          let one_now : ◌≡◌ {A = ℕ} (one_marked (set seen v true) level e) (cond (eqb e.level level) 1 0) = ap (λ m. cond (m && eqb e.level level) 1 0) now in
          let one_before : one_marked seen level e ≡ 0 = ap (λ m. cond (m && eqb e.level level) 1 0) before in
          let entry : ◌≡◌ {A = ℕ} (cond (is_of (level_in (entry_of (e ∷ es) v)) level) 1 0) (cond (eqb e.level level) 1 0) = ap (λ o. cond (is_of (level_in o) level) 1 0) (cond-true (eqb (variable e.lit) v) (Some e) (entry_of es v) t) in
          omega arith
      | inr t ↦
          let rest = marked_at-set seen v level es (IsDistinct-tail eqb (variable e.lit) (variables es) d) f b in
          let one = one_marked-other seen v true level e (eqb-false (variable e.lit) v t) in
          let entry : ◌≡◌ {A = ℕ} (cond (is_of (level_in (entry_of (e ∷ es) v)) level) 1 0) (cond (is_of (level_in (entry_of es v)) level) 1 0) = ap (λ o. cond (is_of (level_in o) level) 1 0) (cond-false (eqb (variable e.lit) v) (Some e) (entry_of es v) t) in
          omega arith
    ]

-- a mark taken back
pub marked_at-unset : (seen : List Bool) (v level : ℕ) (es : List Entry) → IsDistinct eqb (variables es) → get_or seen v false ≡ true → v < length seen → marked_at (set seen v false) level es + cond (is_of (level_in (entry_of es v)) level) 1 0 ≡ marked_at seen level es
marked_at-unset seen v level es d t b =
    let size = length-set seen v false in
    let again = marked_at-set (set seen v false) v level es d (get_or-set_same seen v false false b) (omega arith) in
    let whole : set (set seen v false) v true ≡ seen = set-set seen v false true ∙ (ap (λ x. set seen v x) (sym t) ∙ set-get_or seen v false) in
    sym again ∙ ap (λ s. marked_at s level es) whole

-- where none is marked, none of the level is; where some is, one is
pub none-marked : (seen : List Bool) (level : ℕ) (es : List Entry) → marked_at seen level es ≡ 0 → (j : ℕ) (d : Entry) → j < length es → IsTrue (is_marked seen (get_or es j d).lit) → (get_or es j d).level ≡ level → ⊥
none-marked seen level [] z j d b m e = absurd (omega arith)
none-marked seen level (x ∷ xs) z zero d b m e =
    let one : one_marked seen level x ≡ 1 = ap (λ a. cond (a && eqb x.level level) 1 0) m ∙ ap (λ a. cond a 1 0) (eq-eqb x.level level e) in
    omega arith
none-marked seen level (x ∷ xs) z (suc j) d b m e = none-marked seen level xs (omega arith) j d (omega arith) m e

pub some-marked : (seen : List Bool) (level : ℕ) (es : List Entry) → 0 < marked_at seen level es → (j : ℕ) × (j < length es) × ((d : Entry) → IsTrue (is_marked seen (get_or es j d).lit) × ((get_or es j d).level ≡ level))
some-marked seen level [] h = absurd (omega arith)
some-marked seen level (x ∷ xs) h =
    elim (cases_Bool (is_marked seen x.lit && eqb x.level level)) [
      | inl t ↦ let parts = and_parts (is_marked seen x.lit) (eqb x.level level) t in (0, omega arith, λ d. (parts.0, eqb-true x.level level parts.1))
      | inr t ↦
          let one : one_marked seen level x ≡ 0 = ap (λ a. cond a 1 0) t in
          let w = some-marked seen level xs (omega arith) in
          (suc w.0, omega (arith, w.1), w.2)
    ]

pub marks-more : (seen now : List Bool) (clause : List Lit) (k : ℕ) (d : Lit) (v : ℕ) → k < length clause → get_or now v false ≡ (get_or seen v false || has_variable (take k clause) v) → variable (get_or clause k d) < length now → get_or (set now (variable (get_or clause k d)) true) v false ≡ (get_or seen v false || has_variable (take (k + 1) clause) v)
marks-more seen now clause k d v b h w =
    let x = get_or clause k d in
    let P : List Lit → Type 0 = λ ls. get_or (set now (variable x) true) v false ≡ (get_or seen v false || has_variable ls v) in
    subst P (sym (take_more clause k d b)) (here (cases_eq (variable x) v))
  where
    any-last : (p : Lit → Bool) (xs : List Lit) (x : Lit) → list_any p (xs ++ x ∷ []) ≡ (list_any p xs || p x)
    any-last p [] x = flip (p x)
      where
        flip : (b : Bool) → (b || false) ≡ (false || b)
        flip true = refl
        flip false = refl
    any-last p (y ∷ ys) x = ap (λ b. p y || b) (any-last p ys x) ∙ assoc (p y) (list_any p ys) (p x)
      where
        assoc : (a b c : Bool) → (a || (b || c)) ≡ ((a || b) || c)
        assoc true b c = refl
        assoc false b c = refl

    last-true : (a b : Bool) → true ≡ (a || (b || true))
    last-true true b = refl
    last-true false true = refl
    last-true false false = refl

    last-false : (a b : Bool) → (a || b) ≡ (a || (b || false))
    last-false true b = refl
    last-false false true = refl
    last-false false false = refl

    here : (variable (get_or clause k d) ≡ v) ⊎ (variable (get_or clause k d) ≡ v → ⊥) → get_or (set now (variable (get_or clause k d)) true) v false ≡ (get_or seen v false || has_variable (take k clause ++ get_or clause k d ∷ []) v)
    here (inl e) =
        let one : get_or (set now (variable (get_or clause k d)) true) v false ≡ true = ap (λ i. get_or (set now (variable (get_or clause k d)) true) i false) (sym e) ∙ get_or-set_same now (variable (get_or clause k d)) true false w in
        one
        ∙ (last-true (get_or seen v false) (has_variable (take k clause) v)
        ∙ (ap (λ b. get_or seen v false || (has_variable (take k clause) v || b)) (sym (eq-eqb _ _ e))
        ∙ ap (λ b. get_or seen v false || b) (sym (any-last (λ l. eqb (variable l) v) (take k clause) (get_or clause k d)))))
    here (inr n) =
        get_or-set_other now (variable (get_or clause k d)) v true false (λ e. n (sym e))
        ∙ (h
        ∙ (last-false (get_or seen v false) (has_variable (take k clause) v)
        ∙ (ap (λ b. get_or seen v false || (has_variable (take k clause) v || b)) (sym (ne_eqb _ _ n))
        ∙ ap (λ b. get_or seen v false || b) (sym (any-last (λ l. eqb (variable l) v) (take k clause) (get_or clause k d))))))

-- the marked literals of a front, and one entry more
pub marked-push : (seen : List Bool) (es : List Entry) (k : ℕ) (d : Entry) → k < length es → marked seen (lits (take (k + 1) es)) ≡ marked seen (lits (take k es)) ++ cond (is_marked seen (get_or es k d).lit) (negation (get_or es k d).lit ∷ []) []
marked-push seen es k d b = ap (λ xs. marked seen (lits xs)) (take_more es k d b) ∙ last (take k es) (get_or es k d)
  where
    last : (xs : List Entry) (e : Entry) → marked seen (lits (xs ++ e ∷ [])) ≡ marked seen (lits xs) ++ cond (is_marked seen e.lit) (negation e.lit ∷ []) []
    last [] e = refl
    last (x ∷ xs) e = one (is_marked seen x.lit) (last xs e)
      where
        one : (b : Bool) → marked seen (lits (xs ++ e ∷ [])) ≡ marked seen (lits xs) ++ cond (is_marked seen e.lit) (negation e.lit ∷ []) [] → cond b (negation x.lit ∷ marked seen (lits (xs ++ e ∷ []))) (marked seen (lits (xs ++ e ∷ []))) ≡ cond b (negation x.lit ∷ marked seen (lits xs)) (marked seen (lits xs)) ++ cond (is_marked seen e.lit) (negation e.lit ∷ []) []
        one true h = ap (λ ls. negation x.lit ∷ ls) h
        one false h = h
