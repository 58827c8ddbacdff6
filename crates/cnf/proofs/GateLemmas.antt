-- What the gates on literals keep, allow and mean.
use Rattle.std.proofs.Common.{◌≡◌, ◌+◌, ◌≤◌, ◌⊎◌, ◌↔◌, ℕ, Bool, true, false, not, cond, ◌&&◌, ◌||◌, IsTrue, List, [], ◌∷◌, ◌++◌, map, length, refl, sym, ap, ◌∙◌, inl, inr, arith}
use Rattle.std.specs.Prelude.{count_by}
use Rattle.std.specs.List.{list_all, list_any}
use Rattle.std.proofs.lemmas.Bool.{and_parts, and_from, cases_Bool, cases_eq, false≢true, or_from, or_left, or_right, or_parts}
use Rattle.std.proofs.lemmas.List.Folds.{list_all-append}
use Rattle.std.proofs.lemmas.List.Sums.{sum_by-cons}
use Rattle.cnf.specs.declared.lit.Lit.{Lit}
use Rattle.cnf.specs.Cnf.{Cnf, Satisfies, is_in_range}
use Rattle.cnf.specs.Gates.{Extends, with_exactly_one, not_both, all_clauses, with_and_gate, with_or_gate, with_true, with_false}
use Rattle.cnf.specs.Lits.{negation, positive, is_below, are_below}
use Rattle.cnf.specs.Values.{value, holds, all_hold}
use Rattle.cnf.proofs.LitLemmas.{value-negation, value-append, is_below-negation, is_below-positive, is_below-mono, are_below-mono, are_below-negations, pair_below, list_all-append-from, list_all-append-parts}
use Rattle.cnf.proofs.ExtensionLemmas.{extends-by, value-first}

-- one formula for "gate or not" over a list
all_hold-each : (vs : List Bool) (gate : Lit) (ls : List Lit) → all_hold vs (map (λ l. negation gate ∷ l ∷ []) ls) ≡ (not (value vs gate) || list_all (value vs) ls)
all_hold-each vs gate [] = or_true (not (value vs gate))
  where
    or_true : (b : Bool) → true ≡ (b || true)
    or_true true = refl
    or_true false = refl
all_hold-each vs gate (l ∷ ls) =
    ap (λ b. (b || (value vs l || false)) && all_hold vs (map (λ l. negation gate ∷ l ∷ []) ls)) (value-negation vs gate)
    ∙ (ap (λ b. (not (value vs gate) || (value vs l || false)) && b) (all_hold-each vs gate ls)
    ∙ distribute (not (value vs gate)) (value vs l) (list_all (value vs) ls))
  where
    distribute : (a b c : Bool) → ((a || (b || false)) && (a || c)) ≡ (a || (b && c))
    distribute true b c = refl
    distribute false true c = refl
    distribute false false c = refl

holds-negations : (vs : List Bool) (ls : List Lit) → holds vs (map negation ls) ≡ not (list_all (value vs) ls)
holds-negations vs [] = refl
holds-negations vs (l ∷ ls) =
    ap (λ b. b || holds vs (map negation ls)) (value-negation vs l)
    ∙ (ap (λ b. not (value vs l) || b) (holds-negations vs ls) ∙ or_of_nots (value vs l) (list_all (value vs) ls))
  where
    or_of_nots : (a b : Bool) → (not a || not b) ≡ not (a && b)
    or_of_nots true b = refl
    or_of_nots false b = refl

abbrev both_ways_clauses : Bool → Bool → Bool
both_ways_clauses g a = (not g || a) && ((g || not a) && true)

all_clauses-value : (vs : List Bool) (gate : Lit) (ls : List Lit) → all_hold vs (all_clauses gate ls) ≡ both_ways_clauses (value vs gate) (list_all (value vs) ls)
all_clauses-value vs gate ls =
    list_all-append (holds vs) (map (λ l. negation gate ∷ l ∷ []) ls) ((gate ∷ map negation ls) ∷ [])
    ∙ (ap (λ b. b && ((value vs gate || holds vs (map negation ls)) && true)) (all_hold-each vs gate ls)
    ∙ ap (λ b. (not (value vs gate) || list_all (value vs) ls) && ((value vs gate || b) && true)) (holds-negations vs ls))

pub all_clauses-mean : (vs : List Bool) (gate : Lit) (ls : List Lit) → IsTrue (all_hold vs (all_clauses gate ls)) → value vs gate ≡ list_all (value vs) ls
all_clauses-mean vs gate ls h = same _ _ (sym (all_clauses-value vs gate ls) ∙ h)
  where
    same : (g a : Bool) → IsTrue (both_ways_clauses g a) → g ≡ a
    same true true h = refl
    same true false h = sym h
    same false true h = h
    same false false h = refl

all_clauses-hold : (vs : List Bool) (gate : Lit) (ls : List Lit) → value vs gate ≡ list_all (value vs) ls → IsTrue (all_hold vs (all_clauses gate ls))
all_clauses-hold vs gate ls e =
    all_clauses-value vs gate ls ∙ (ap (λ b. both_ways_clauses b (list_all (value vs) ls)) e ∙ itself (list_all (value vs) ls))
  where
    itself : (a : Bool) → both_ways_clauses a a ≡ true
    itself true = refl
    itself false = refl

-- the same literals are true with more values behind
pub list_all-values : (vs ws : List Bool) (ls : List Lit) → IsTrue (are_below (length vs) ls) → list_all (value (vs ++ ws)) ls ≡ list_all (value vs) ls
list_all-values vs ws [] h = refl
list_all-values vs ws (l ∷ ls) h =
    let parts = and_parts (is_below (length vs) l) (are_below (length vs) ls) h in
    ap (λ b. b && list_all (value (vs ++ ws)) ls) (value-append vs ws l parts.0)
    ∙ ap (λ b. value vs l && b) (list_all-values vs ws ls parts.1)

each_below : (n : ℕ) (gate : Lit) (ls : List Lit) → IsTrue (is_below n gate) → IsTrue (are_below n ls) → IsTrue (list_all (are_below n) (map (λ l. negation gate ∷ l ∷ []) ls))
each_below n gate [] g h = refl
each_below n gate (l ∷ ls) g h =
    let parts = and_parts (is_below n l) (are_below n ls) h in
    and_from _ _ (pair_below n (negation gate) l (is_below-negation n gate g) parts.0) (each_below n gate ls g parts.1)

all_clauses-below : (n : ℕ) (gate : Lit) (ls : List Lit) → IsTrue (is_below n gate) → IsTrue (are_below n ls) → IsTrue (list_all (are_below n) (all_clauses gate ls))
all_clauses-below n gate ls g h =
    list_all-append-from (are_below n) (map (λ l. negation gate ∷ l ∷ []) ls) ((gate ∷ map negation ls) ∷ []) (each_below n gate ls g h) (and_from _ true (and_from _ _ g (are_below-negations n ls h)) refl)

pub and_gate-extends : (f : Cnf) (ls : List Lit) → IsTrue (is_in_range f) → IsTrue (are_below f.vars ls) → Extends f (with_and_gate f ls).0
unfolding with_and_gate
and_gate-extends f ls r h =
    let gate = positive f.vars in
    let mine = is_below-positive (f.vars + 1) f.vars (omega arith) in
    let theirs = are_below-mono f.vars (f.vars + 1) (omega arith) ls h in
    extends-by f 1 (all_clauses gate ls) r (all_clauses-below (f.vars + 1) gate ls mine theirs) (λ vs e.
    let b = list_all (value vs) ls in
    let old : list_all (value (vs ++ b ∷ [])) ls ≡ b = list_all-values vs (b ∷ []) ls (rw e h) in
    (b ∷ [], refl, all_clauses-hold (vs ++ b ∷ []) gate ls (value-first vs [] b f.vars e ∙ sym old)))

pub and_gate-below : (f : Cnf) (ls : List Lit) → IsTrue (is_below (with_and_gate f ls).0.vars (with_and_gate f ls).1)
unfolding with_and_gate
and_gate-below f ls = is_below-positive (f.vars + 1) f.vars (omega arith)

pub and_gate-means : (f : Cnf) (ls : List Lit) (vs : List Bool) → IsTrue (all_hold vs (with_and_gate f ls).0.clauses) → value vs (with_and_gate f ls).1 ≡ list_all (value vs) ls
unfolding with_and_gate
and_gate-means f ls vs h =
    all_clauses-mean vs (positive f.vars) ls (list_all-append-parts (holds vs) f.clauses (all_clauses (positive f.vars) ls) h).1

-- the gate of two literals
abbrev or_clauses : Lit → Lit → Lit → List (List Lit)
or_clauses gate a b =
    (gate ∷ negation a ∷ []) ∷ (gate ∷ negation b ∷ []) ∷ (negation gate ∷ a ∷ b ∷ []) ∷ []

abbrev or_table : Bool → Bool → Bool → Bool
or_table g a b =
    (g || (not a || false)) && ((g || (not b || false)) && ((not g || (a || (b || false))) && true))

or_clauses-value : (vs : List Bool) (gate a b : Lit) → all_hold vs (or_clauses gate a b) ≡ or_table (value vs gate) (value vs a) (value vs b)
or_clauses-value vs gate a b = simp value-negation

or_table-mean : (g a b : Bool) → IsTrue (or_table g a b) → g ≡ (a || b)
or_table-mean true true b h = refl
or_table-mean true false true h = refl
or_table-mean true false false h = sym h
or_table-mean false true b h = h
or_table-mean false false true h = h
or_table-mean false false false h = refl

or_table-hold : (a b : Bool) → IsTrue (or_table (a || b) a b)
or_table-hold true true = refl
or_table-hold true false = refl
or_table-hold false true = refl
or_table-hold false false = refl

or_clauses-below : (n : ℕ) (gate a b : Lit) → IsTrue (is_below n gate) → IsTrue (is_below n a) → IsTrue (is_below n b) → IsTrue (list_all (are_below n) (or_clauses gate a b))
or_clauses-below n gate a b g h k =
    and_from _ _ (pair_below n gate (negation a) g (is_below-negation n a h)) (and_from _ _ (pair_below n gate (negation b) g (is_below-negation n b k)) (and_from _ true (and_from _ _ (is_below-negation n gate g) (pair_below n a b h k)) refl))

pub or_gate-extends : (f : Cnf) (a b : Lit) → IsTrue (is_in_range f) → IsTrue (is_below f.vars a) → IsTrue (is_below f.vars b) → Extends f (with_or_gate f a b).0
unfolding with_or_gate
or_gate-extends f a b r h k =
    let gate = positive f.vars in
    let mine = is_below-positive (f.vars + 1) f.vars (omega arith) in
    extends-by f 1 (or_clauses gate a b) r (or_clauses-below (f.vars + 1) gate a b mine (is_below-mono f.vars (f.vars + 1) (omega arith) a h) (is_below-mono f.vars (f.vars + 1) (omega arith) b k)) (λ vs e.
    let g = value vs a || value vs b in (
      g ∷ [],
      refl,
      or_clauses-value (vs ++ g ∷ []) gate a b
          ∙ (ap (λ v. or_table v (value (vs ++ g ∷ []) a) (value (vs ++ g ∷ []) b)) (value-first vs [] g f.vars e)
          ∙ (ap (λ v. or_table g v (value (vs ++ g ∷ []) b)) (value-append vs (g ∷ []) a (rw e h))
          ∙ (ap (λ v. or_table g (value vs a) v) (value-append vs (g ∷ []) b (rw e k)) ∙ or_table-hold (value vs a) (value vs b)))),
    ))

pub or_gate-below : (f : Cnf) (a b : Lit) → IsTrue (is_below (with_or_gate f a b).0.vars (with_or_gate f a b).1)
unfolding with_or_gate
or_gate-below f a b = is_below-positive (f.vars + 1) f.vars (omega arith)

pub or_gate-means : (f : Cnf) (a b : Lit) (vs : List Bool) → IsTrue (all_hold vs (with_or_gate f a b).0.clauses) → value vs (with_or_gate f a b).1 ≡ (value vs a || value vs b)
unfolding with_or_gate
or_gate-means f a b vs h =
    let new = (list_all-append-parts (holds vs) f.clauses (or_clauses (positive f.vars) a b) h).1 in
    or_table-mean _ _ _ (sym (or_clauses-value vs (positive f.vars) a b) ∙ new)

-- fresh constants
pub true-extends : (f : Cnf) → IsTrue (is_in_range f) → Extends f (with_true f).0
unfolding with_true
true-extends f r =
    extends-by f 1 ((positive f.vars ∷ []) ∷ []) r (and_from _ true (and_from _ true (is_below-positive (f.vars + 1) f.vars (omega arith)) refl) refl) (λ vs e.
    (true ∷ [], refl, and_from _ true (or_left _ _ (value-first vs [] true f.vars e)) refl))

pub true-below : (f : Cnf) → IsTrue (is_below (with_true f).0.vars (with_true f).1)
unfolding with_true
true-below f = is_below-positive (f.vars + 1) f.vars (omega arith)

or_false : (b : Bool) → (b || false) ≡ b
or_false true = refl
or_false false = refl

pub true-means : (f : Cnf) (vs : List Bool) → IsTrue (all_hold vs (with_true f).0.clauses) → IsTrue (value vs (with_true f).1)
unfolding with_true
true-means f vs h =
    let new = (list_all-append-parts (holds vs) f.clauses ((positive f.vars ∷ []) ∷ []) h).1 in
    sym (or_false _) ∙ (and_parts _ true new).0

pub false-extends : (f : Cnf) → IsTrue (is_in_range f) → Extends f (with_false f).0
unfolding with_false
false-extends f r =
    extends-by f 1 ((negation (positive f.vars) ∷ []) ∷ []) r (and_from _ true (and_from _ true (is_below-negation (f.vars + 1) (positive f.vars) (is_below-positive (f.vars + 1) f.vars (omega arith))) refl) refl) (λ vs e. (
      false ∷ [],
      refl,
      and_from _ true (or_left _ _ (value-negation (vs ++ false ∷ []) (positive f.vars) ∙ ap not (value-first vs [] false f.vars e))) refl,
    ))

pub false-below : (f : Cnf) → IsTrue (is_below (with_false f).0.vars (with_false f).1)
unfolding with_false
false-below f = is_below-positive (f.vars + 1) f.vars (omega arith)

pub false-means : (f : Cnf) (vs : List Bool) → IsTrue (all_hold vs (with_false f).0.clauses) → value vs (with_false f).1 ≡ false
unfolding with_false
false-means f vs h =
    let new = (list_all-append-parts (holds vs) f.clauses ((negation (positive f.vars) ∷ []) ∷ []) h).1 in
    not_true _ (sym (value-negation vs (positive f.vars)) ∙ (sym (or_false _) ∙ (and_parts _ true new).0))
  where
    not_true : (b : Bool) → not b ≡ true → b ≡ false
    not_true true h = sym h
    not_true false h = refl

-- not one literal with each of the others
not_with-value : (vs : List Bool) (l : Lit) (ls : List Lit) → all_hold vs (map (λ m. negation l ∷ negation m ∷ []) ls) ≡ (not (value vs l) || not (list_any (value vs) ls))
not_with-value vs l [] = or_true (not (value vs l))
  where
    or_true : (b : Bool) → true ≡ (b || true)
    or_true true = refl
    or_true false = refl
not_with-value vs l (m ∷ ms) =
    ap (λ b. (b || (value vs (negation m) || false)) && all_hold vs (map (λ m. negation l ∷ negation m ∷ []) ms)) (value-negation vs l)
    ∙ (ap (λ b. (not (value vs l) || (b || false)) && all_hold vs (map (λ m. negation l ∷ negation m ∷ []) ms)) (value-negation vs m)
    ∙ (ap (λ b. (not (value vs l) || (not (value vs m) || false)) && b) (not_with-value vs l ms)
    ∙ distribute (not (value vs l)) (value vs m) (list_any (value vs) ms)))
  where
    distribute : (a b c : Bool) → ((a || (not b || false)) && (a || not c)) ≡ (a || not (b || c))
    distribute true b c = refl
    distribute false true c = refl
    distribute false false c = refl

-- a true place counts 1
abbrev digit : Bool → ℕ
digit b = cond b 1 0

count-cons : (vs : List Bool) (l : Lit) (ls : List Lit) → count_by (value vs) (l ∷ ls) ≡ digit (value vs l) + count_by (value vs) ls
count-cons vs l ls = sum_by-cons (λ m. cond (value vs m) 1 0) l ls

count-none : (vs : List Bool) (ls : List Lit) → list_any (value vs) ls ≡ false → count_by (value vs) ls ≡ 0
count-none vs [] h = refl
count-none vs (l ∷ ls) h =
    let parts = or_parts (value vs l) (list_any (value vs) ls) h in
    omega (arith, count-cons vs l ls, ap digit parts.0, count-none vs ls parts.1)

none-count : (vs : List Bool) (ls : List Lit) → count_by (value vs) ls ≡ 0 → list_any (value vs) ls ≡ false
none-count vs [] h = refl
none-count vs (l ∷ ls) h =
    elim (cases_Bool (value vs l)) [
      | inl t ↦ absurd (omega (arith, count-cons vs l ls, h, ap digit t))
      | inr e ↦ or_from (value vs l) (list_any (value vs) ls) e (none-count vs ls (omega (arith, count-cons vs l ls, h, ap digit e)))
    ]

not_both-count : (vs : List Bool) (ls : List Lit) → IsTrue (all_hold vs (not_both ls)) → count_by (value vs) ls ≤ 1
not_both-count vs [] h = omega arith
not_both-count vs (l ∷ ls) h =
    let parts = list_all-append-parts (holds vs) (map (λ m. negation l ∷ negation m ∷ []) ls) (not_both ls) h in
    let first = sym (not_with-value vs l ls) ∙ parts.0 in
    elim (cases_Bool (value vs l)) [
      | inl t ↦
          let none : list_any (value vs) ls ≡ false = alone (value vs l) (list_any (value vs) ls) t first in
          omega (arith, count-cons vs l ls, ap digit t, count-none vs ls none)
      | inr e ↦ omega (arith, count-cons vs l ls, ap digit e, not_both-count vs ls parts.1)
    ]
  where
    alone : (a b : Bool) → a ≡ true → (not a || not b) ≡ true → b ≡ false
    alone true true t h = sym h
    alone true false t h = refl
    alone false b t h = absurd (false≢true t)

count-not_both : (vs : List Bool) (ls : List Lit) → count_by (value vs) ls ≤ 1 → IsTrue (all_hold vs (not_both ls))
count-not_both vs [] h = refl
count-not_both vs (l ∷ ls) h =
    list_all-append-from (holds vs) (map (λ m. negation l ∷ negation m ∷ []) ls) (not_both ls) (not_with-value vs l ls ∙ first (cases_Bool (value vs l))) (count-not_both vs ls (omega (arith, count-cons vs l ls, h)))
  where
    first : ((value vs l ≡ true) ⊎ (value vs l ≡ false)) → (not (value vs l) || not (list_any (value vs) ls)) ≡ true
    first (inl t) =
        let none : count_by (value vs) ls ≡ 0 = omega (arith, count-cons vs l ls, h, ap digit t) in
        or_right (not (value vs l)) _ (ap not (none-count vs ls none))
    first (inr e) = or_left _ _ (ap not e)

exactly_one-count : (vs : List Bool) (ls : List Lit) → IsTrue (all_hold vs (ls ∷ not_both ls)) → count_by (value vs) ls ≡ 1
exactly_one-count vs ls h =
    let parts = and_parts (holds vs ls) (all_hold vs (not_both ls)) h in
    elim (cases_eq (count_by (value vs) ls) 0) [
      | inl z ↦ absurd (false≢true (sym (none-count vs ls z) ∙ parts.0))
      | inr n ↦ omega (arith, n, not_both-count vs ls parts.1)
    ]

count-exactly_one : (vs : List Bool) (ls : List Lit) → count_by (value vs) ls ≡ 1 → IsTrue (all_hold vs (ls ∷ not_both ls))
count-exactly_one vs ls h =
    and_from (holds vs ls) _ (some (cases_Bool (holds vs ls))) (count-not_both vs ls (omega (arith, h)))
  where
    some : ((holds vs ls ≡ true) ⊎ (holds vs ls ≡ false)) → holds vs ls ≡ true
    some (inl t) = t
    some (inr e) = absurd (omega (arith, h, count-none vs ls e))

pub exactly_one-means : (f : Cnf) (ls : List Lit) (vs : List Bool) → IsTrue (all_hold vs (with_exactly_one f ls).clauses) ↔ (IsTrue (all_hold vs f.clauses) × (count_by (value vs) ls ≡ 1))
unfolding with_exactly_one
exactly_one-means f ls vs = (
  λ h.
      let parts = list_all-append-parts (holds vs) f.clauses (ls ∷ not_both ls) h in
      (parts.0, exactly_one-count vs ls parts.1),
  λ h. list_all-append-from (holds vs) f.clauses (ls ∷ not_both ls) h.0 (count-exactly_one vs ls h.1),
)

exactly_one-vars : (f : Cnf) (ls : List Lit) → (with_exactly_one f ls).vars ≡ f.vars
unfolding with_exactly_one
exactly_one-vars f ls = refl

pub exactly_one-satisfied : (f : Cnf) (ls : List Lit) (vs : List Bool) → Satisfies vs (with_exactly_one f ls) ↔ (Satisfies vs f × (count_by (value vs) ls ≡ 1))
exactly_one-satisfied f ls vs =
    let m = exactly_one-means f ls vs in
    let v = exactly_one-vars f ls in (
      λ s.
          let parts = m.0 s.each_holds in (record { one_each = s.one_each ∙ v; each_holds = parts.0 }, parts.1),
      λ s. record { one_each = s.0.one_each ∙ sym v; each_holds = m.1 (s.0.each_holds, s.1) },
    )

not_with-below : (n : ℕ) (l : Lit) (ls : List Lit) → IsTrue (is_below n l) → IsTrue (are_below n ls) → IsTrue (list_all (are_below n) (map (λ m. negation l ∷ negation m ∷ []) ls))
not_with-below n l [] h k = refl
not_with-below n l (m ∷ ms) h k =
    let parts = and_parts (is_below n m) (are_below n ms) k in
    and_from _ _ (pair_below n (negation l) (negation m) (is_below-negation n l h) (is_below-negation n m parts.0)) (not_with-below n l ms h parts.1)

not_both-below : (n : ℕ) (ls : List Lit) → IsTrue (are_below n ls) → IsTrue (list_all (are_below n) (not_both ls))
not_both-below n [] h = refl
not_both-below n (l ∷ ls) h =
    let parts = and_parts (is_below n l) (are_below n ls) h in
    list_all-append-from (are_below n) (map (λ m. negation l ∷ negation m ∷ []) ls) (not_both ls) (not_with-below n l ls parts.0 parts.1) (not_both-below n ls parts.1)

pub exactly_one-in_range : (f : Cnf) (ls : List Lit) → IsTrue (is_in_range f) → IsTrue (are_below f.vars ls) → IsTrue (is_in_range (with_exactly_one f ls))
unfolding with_exactly_one
exactly_one-in_range f ls r h =
    list_all-append-from (are_below f.vars) f.clauses (ls ∷ not_both ls) r (and_from _ _ h (not_both-below f.vars ls h))

pub exactly_one-keeps : (f : Cnf) (ls : List Lit) → (more : List (List Lit)) × ((with_exactly_one f ls).clauses ≡ f.clauses ++ more)
unfolding with_exactly_one
exactly_one-keeps f ls = (ls ∷ not_both ls, refl)
