-- Lemmas on literals, their values, and values with more behind them.
use Rattle.std.proofs.Common.{◌≡◌, ◌+◌, ◌-◌, ◌%◌, ◌<◌, ◌≤◌, ◌⊎◌, ℕ, Bool, true, false, not, ◌&&◌, ◌||◌, cond, eqb, ltb, IsTrue, zero, suc, Option, None, Some, List, [], ◌∷◌, ◌++◌, length, map, take, drop, get_or, refl, sym, ap, ◌∙◌, inl, inr, arith}
use Rattle.std.specs.List.{list_all, slice_get}
use Rattle.std.proofs.lemmas.Bool.{cases_eq, cond-true, cond-false, eq-eqb, ne_eqb, ltb-true, lt-ltb, and_parts, and_from}
use Rattle.std.proofs.lemmas.List.{get_or_append_left}
use Rattle.std.proofs.lemmas.List.Folds.{list_all-append}
use Rattle.cnf.specs.declared.lit.Lit.{Lit}
use Rattle.cnf.specs.Lits.{variable, positive, negation, is_below, are_below}
use Rattle.cnf.specs.Values.{value, holds, all_hold}

-- a literal is its number
pub number-eq : (a b : Lit) → a.0 ≡ b.0 → a ≡ b
number-eq a b e = let number : ℕ → Lit = λ n. record { 0 = n } in ap number e

-- the negation of a literal by its number
pub negation-even : (l : Lit) → l.0 % 2 ≡ 0 → (negation l).0 ≡ l.0 + 1
unfolding negation
negation-even l e = cond-true (eqb (l.0 % 2) 0) (l.0 + 1) (l.0 - 1) (eq-eqb _ _ e)

pub negation-odd : (l : Lit) → l.0 % 2 ≡ 1 → (negation l).0 ≡ l.0 - 1
unfolding negation
negation-odd l e = cond-false (eqb (l.0 % 2) 0) (l.0 + 1) (l.0 - 1) (ne_eqb _ _ (λ z. omega arith))

pub parity : (n : ℕ) → (n % 2 ≡ 0) ⊎ (n % 2 ≡ 1)
parity n = elim (cases_eq (n % 2) 0) [ inl e ↦ inl e | inr e ↦ inr (omega arith) ]

-- a literal by the number of its negation
pub negation_of_even : (l : Lit) → l.0 % 2 ≡ 0 → record { 0 = l.0 + 1 } ≡ negation l
negation_of_even l e = let number : ℕ → Lit = λ n. record { 0 = n } in ap number (sym (negation-even l e))

pub negation_of_odd : (l : Lit) → l.0 % 2 ≡ 1 → record { 0 = l.0 - 1 } ≡ negation l
negation_of_odd l e = let number : ℕ → Lit = λ n. record { 0 = n } in ap number (sym (negation-odd l e))

pub variable-negation : (l : Lit) → variable (negation l) ≡ variable l
variable-negation l =
    elim (parity l.0) [
      | inl e ↦ let h = negation-even l e in omega arith
      | inr e ↦ let h = negation-odd l e in omega arith
    ]

-- values by the parity of the number
value-even : (vs : List Bool) (l : Lit) → l.0 % 2 ≡ 0 → value vs l ≡ get_or vs (variable l) false
unfolding value
value-even vs l e = cond-false (eqb (l.0 % 2) 1) _ _ (ne_eqb _ _ (λ z. omega arith))

value-odd : (vs : List Bool) (l : Lit) → l.0 % 2 ≡ 1 → value vs l ≡ not (get_or vs (variable l) false)
unfolding value
value-odd vs l e = cond-true (eqb (l.0 % 2) 1) _ _ (eq-eqb _ _ e)

not-not : (b : Bool) → not (not b) ≡ b
not-not true = refl
not-not false = refl

-- a negation is true exactly where the literal is false
pub value-negation : (vs : List Bool) (l : Lit) → value vs (negation l) ≡ not (value vs l)
value-negation vs l =
    let v = variable-negation l in
    elim (parity l.0) [
      | inl e ↦
          let h = negation-even l e in
          let odd : (negation l).0 % 2 ≡ 1 = omega arith in
          value-odd vs (negation l) odd ∙ (ap (λ n. not (get_or vs n false)) v ∙ ap not (sym (value-even vs l e)))
      | inr e ↦
          let h = negation-odd l e in
          let even : (negation l).0 % 2 ≡ 0 = omega arith in
          value-even vs (negation l) even
          ∙ (ap (λ n. get_or vs n false) v ∙ (sym (not-not _) ∙ ap not (sym (value-odd vs l e))))
    ]

pub variable-positive : (v : ℕ) → variable (positive v) ≡ v
unfolding positive
variable-positive v = omega arith

positive-even : (v : ℕ) → (positive v).0 % 2 ≡ 0
unfolding positive
positive-even v = omega arith

pub value-positive : (vs : List Bool) (v : ℕ) → value vs (positive v) ≡ get_or vs v false
value-positive vs v =
    value-even vs (positive v) (positive-even v) ∙ ap (λ n. get_or vs n false) (variable-positive v)

-- a literal of the first variables has the same value with more behind
pub value-append : (vs ws : List Bool) (l : Lit) → IsTrue (is_below (length vs) l) → value (vs ++ ws) l ≡ value vs l
unfolding value
value-append vs ws l below =
    ap (λ b. cond (eqb (l.0 % 2) 1) (not b) b) (get_or_append_left vs ws false (variable l) (ltb-true _ _ below))

pub holds-append : (vs ws : List Bool) (clause : List Lit) → IsTrue (are_below (length vs) clause) → holds (vs ++ ws) clause ≡ holds vs clause
holds-append vs ws [] below = refl
holds-append vs ws (l ∷ ls) below =
    let h = and_parts (is_below (length vs) l) (are_below (length vs) ls) below in
    let one = value-append vs ws l h.0 in
    let rest = holds-append vs ws ls h.1 in
    ap (λ b. b || holds (vs ++ ws) ls) one ∙ ap (λ b. value vs l || b) rest

pub all_hold-values : (vs ws : List Bool) (cs : List (List Lit)) → IsTrue (list_all (are_below (length vs)) cs) → all_hold (vs ++ ws) cs ≡ all_hold vs cs
all_hold-values vs ws [] below = refl
all_hold-values vs ws (c ∷ cs) below =
    let h = and_parts (are_below (length vs) c) (list_all (are_below (length vs)) cs) below in
    let one = holds-append vs ws c h.0 in
    let rest = all_hold-values vs ws cs h.1 in
    ap (λ b. b && all_hold (vs ++ ws) cs) one ∙ ap (λ b. holds vs c && b) rest

-- tests of each element of two lists, one behind the other
pub list_all-append-from : {X : Type 0} (p : X → Bool) (xs ys : List X) → IsTrue (list_all p xs) → IsTrue (list_all p ys) → IsTrue (list_all p (xs ++ ys))
list_all-append-from p xs ys h k = list_all-append p xs ys ∙ and_from _ _ h k

pub list_all-append-parts : {X : Type 0} (p : X → Bool) (xs ys : List X) → IsTrue (list_all p (xs ++ ys)) → IsTrue (list_all p xs) × IsTrue (list_all p ys)
list_all-append-parts p xs ys h = and_parts _ _ (sym (list_all-append p xs ys) ∙ h)

-- a test that passes where another does
pub list_all-mono : {X : Type 0} (p q : X → Bool) → ((x : X) → IsTrue (p x) → IsTrue (q x)) → (xs : List X) → IsTrue (list_all p xs) → IsTrue (list_all q xs)
list_all-mono p q f [] h = refl
list_all-mono p q f (x ∷ xs) h =
    let parts = and_parts (p x) (list_all p xs) h in
    and_from _ _ (f x parts.0) (list_all-mono p q f xs parts.1)

pub is_below-mono : (m n : ℕ) → m ≤ n → (l : Lit) → IsTrue (is_below m l) → IsTrue (is_below n l)
is_below-mono m n h l below = lt-ltb (variable l) n (let k = ltb-true (variable l) m below in omega arith)

pub are_below-mono : (m n : ℕ) → m ≤ n → (ls : List Lit) → IsTrue (are_below m ls) → IsTrue (are_below n ls)
are_below-mono m n h ls below = list_all-mono (is_below m) (is_below n) (is_below-mono m n h) ls below

pub all_below-mono : (m n : ℕ) → m ≤ n → (cs : List (List Lit)) → IsTrue (list_all (are_below m) cs) → IsTrue (list_all (are_below n) cs)
all_below-mono m n h cs below = list_all-mono (are_below m) (are_below n) (are_below-mono m n h) cs below

pub is_below-negation : (n : ℕ) (l : Lit) → IsTrue (is_below n l) → IsTrue (is_below n (negation l))
is_below-negation n l below = lt-ltb _ _ (let k = ltb-true (variable l) n below in let v = variable-negation l in omega arith)

pub is_below-positive : (n v : ℕ) → v < n → IsTrue (is_below n (positive v))
is_below-positive n v h = lt-ltb _ _ (let e = variable-positive v in omega arith)

None≢Some : {X : Type 0} {x : X} (o : Option X) → o ≡ None → o ≡ Some x → ⊥
None≢Some o n e = cc

same_in_some : {X : Type 0} {x y : X} → Some x ≡ Some y → x ≡ y
same_in_some e = cc

pub list_all-get : {X : Type 0} (p : X → Bool) (xs : List X) (k : ℕ) (x : X) → IsTrue (list_all p xs) → slice_get xs k ≡ Some x → IsTrue (p x)
list_all-get p [] k x h e = absurd (None≢Some _ refl e)
list_all-get p (y ∷ ys) zero x h e = rw (← same_in_some e) (and_parts (p y) (list_all p ys) h).0
list_all-get p (y ∷ ys) (suc k) x h e = list_all-get p ys k x (and_parts (p y) (list_all p ys) h).1 e

-- clauses of a few literals
pub one_below : (n : ℕ) (a : Lit) → IsTrue (is_below n a) → IsTrue (are_below n (a ∷ []))
one_below n a h = and_from (is_below n a) true h refl

pub pair_below : (n : ℕ) (a b : Lit) → IsTrue (is_below n a) → IsTrue (is_below n b) → IsTrue (are_below n (a ∷ b ∷ []))
pair_below n a b h k = and_from (is_below n a) _ h (one_below n b k)

pub triple_below : (n : ℕ) (a b c : Lit) → IsTrue (is_below n a) → IsTrue (is_below n b) → IsTrue (is_below n c) → IsTrue (are_below n (a ∷ b ∷ c ∷ []))
triple_below n a b c h k m = and_from (is_below n a) _ h (pair_below n b c k m)

pub quadruple_below : (n : ℕ) (a b c d : Lit) → IsTrue (is_below n a) → IsTrue (is_below n b) → IsTrue (is_below n c) → IsTrue (is_below n d) → IsTrue (are_below n (a ∷ b ∷ c ∷ d ∷ []))
quadruple_below n a b c d h k m o = and_from (is_below n a) _ h (triple_below n b c d k m o)

-- a literal of the same variable
pub is_below-same : (n : ℕ) (a b : Lit) → variable b ≡ variable a → IsTrue (is_below n a) → IsTrue (is_below n b)
is_below-same n a b e h = ap (λ v. ltb v n) e ∙ h

pub is_below-suc : (n : ℕ) (a : Lit) → IsTrue (is_below n a) → IsTrue (is_below (n + 1) a)
is_below-suc n a h = is_below-mono n (n + 1) (omega arith) a h

pub are_below-suc : (n : ℕ) (ls : List Lit) → IsTrue (are_below n ls) → IsTrue (are_below (n + 1) ls)
are_below-suc n ls h = are_below-mono n (n + 1) (omega arith) ls h

pub are_below-negations : (n : ℕ) (ls : List Lit) → IsTrue (are_below n ls) → IsTrue (are_below n (map negation ls))
are_below-negations n [] h = refl
are_below-negations n (l ∷ ls) h =
    let parts = and_parts (is_below n l) (are_below n ls) h in
    and_from _ _ (is_below-negation n l parts.0) (are_below-negations n ls parts.1)

pub or_not_below : (n : ℕ) (gate : Lit) (ls : List Lit) → IsTrue (is_below n gate) → IsTrue (are_below n ls) → IsTrue (are_below n (gate ∷ map negation ls))
or_not_below n gate ls h k = and_from (is_below n gate) _ h (are_below-negations n ls k)

pub are_below-get : (n : ℕ) (ls : List Lit) (k : ℕ) (d : Lit) → IsTrue (are_below n ls) → k < length ls → IsTrue (is_below n (get_or ls k d))
are_below-get n [] k d h b = absurd (omega arith)
are_below-get n (l ∷ ls) zero d h b = (and_parts (is_below n l) (are_below n ls) h).0
are_below-get n (l ∷ ls) (suc k) d h b = are_below-get n ls k d (and_parts (is_below n l) (are_below n ls) h).1 (omega arith)

pub are_below-drop : (n k : ℕ) (ls : List Lit) → IsTrue (are_below n ls) → IsTrue (are_below n (drop k ls))
are_below-drop n zero ls h = h
are_below-drop n (suc k) [] h = h
are_below-drop n (suc k) (l ∷ ls) h = are_below-drop n k ls (and_parts (is_below n l) (are_below n ls) h).1

pub are_below-take : (n k : ℕ) (ls : List Lit) → IsTrue (are_below n ls) → IsTrue (are_below n (take k ls))
are_below-take n zero ls h = refl
are_below-take n (suc k) [] h = h
are_below-take n (suc k) (l ∷ ls) h =
    let parts = and_parts (is_below n l) (are_below n ls) h in and_from _ _ parts.0 (are_below-take n k ls parts.1)

pub ruleset clauses_in_range = (one_below, pair_below, triple_below, is_below-same, is_below-suc, are_below-suc, or_not_below)
