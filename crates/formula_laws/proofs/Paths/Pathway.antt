-- The clauses of the path say what the grid asks.
use Rattle.std.proofs.Common.{Bool, IsTrue, List, [], ap, arith, false, inl, inr, length, not, refl, subst, suc, sym, true, zero, ℕ, ◌&&◌, ◌++◌, ◌+◌, ◌<◌, ◌||◌, ◌∙◌, ◌∷◌, ◌≡◌, ◌≤◌, ◌⊎◌}
use Rattle.std.proofs.lemmas.Bool.{and_from, and_parts, false≢true}
use Rattle.std.specs.Prelude.{nat_lt}
use Rattle.formula_laws.specs.Path.{both_fit, each_below, left_fits, next_clauses, next_lits, node_lit, only_if, path_clauses, right_fits, same_bool, true_nodes}
use Rattle.cnf.proofs.ForCallers.{list_all-append-from, list_all-append-parts, value-negation}
use Rattle.cnf.specs.Lits.{negation}
use Rattle.cnf.specs.Values.{all_hold, holds, value}
use Rattle.cnf.specs.declared.lit.Lit.{Lit}
use Rattle.css_model.specs.declared.selector.Combinator.{Combinator}
use Rattle.grid_laws.specs.Grid.{Grid, Lays, Nodes, goes_up_at, left_alone, right_alone, together}

-- clauses made for each number below a bound
pub each_means : (vs : List Bool) (make : ℕ → List (List Lit)) (n k : ℕ) → IsTrue (all_hold vs (each_below n make)) → k < n → IsTrue (all_hold vs (make k))
each_means vs make zero k h less = absurd (omega arith)
each_means vs make (suc n) k h less =
    let parts = list_all-append-parts (holds vs) (each_below n make) (make n) h in
    elim (last_or k n less) [
      | inl below ↦ each_means vs make n k parts.0 below
      | inr is ↦ subst (λ (m : ℕ). IsTrue (all_hold vs (make m))) (sym is) parts.1
    ]
  where
    last_or : (k n : ℕ) → k < suc n → (k < n) ⊎ (k ≡ n)
    last_or k n h = grind arith

pub each_back : (vs : List Bool) (make : ℕ → List (List Lit)) (n : ℕ) → ((k : ℕ) → k < n → IsTrue (all_hold vs (make k))) → IsTrue (all_hold vs (each_below n make))
each_back vs make zero each = refl
each_back vs make (suc n) each = list_all-append-from (holds vs) (each_below n make) (make n) (each_back vs make n (λ k h. each k (omega arith))) (each n (omega arith))

only_means : (vs : List Bool) (b : Bool) (cs : List (List Lit)) → b ≡ true → IsTrue (all_hold vs (only_if b cs)) → IsTrue (all_hold vs cs)
only_means vs true cs e h = h
only_means vs false cs e h = absurd (false≢true e)

only_back : (vs : List Bool) (b : Bool) (cs : List (List Lit)) → (b ≡ true → IsTrue (all_hold vs cs)) → IsTrue (all_hold vs (only_if b cs))
only_back vs true cs h = h refl
only_back vs false cs h = refl

-- some literal of three optional ones
some_next : (vs : List Bool) (p q : Bool) (a b c : Lit) → IsTrue (holds vs (only_if p (a ∷ []) ++ (only_if q (b ∷ []) ++ only_if (p && q) (c ∷ [])))) →
    ((p ≡ true) × (value vs a ≡ true)) ⊎ (((q ≡ true) × (value vs b ≡ true)) ⊎ ((p ≡ true) × (q ≡ true) × (value vs c ≡ true)))
some_next vs true true a b c h = by (value vs a) (value vs b) (value vs c) h
  where
    by : (x y z : Bool) → IsTrue (x || (y || (z || false))) → ((true ≡ true) × (x ≡ true)) ⊎ (((true ≡ true) × (y ≡ true)) ⊎ ((true ≡ true) × (true ≡ true) × (z ≡ true)))
    by true y z h = inl (refl, refl)
    by false true z h = inr (inl (refl, refl))
    by false false true h = inr (inr (refl, refl, refl))
    by false false false h = absurd (false≢true h)
some_next vs true false a b c h = by (value vs a) h
  where
    by : (x : Bool) → IsTrue (x || false) → ((true ≡ true) × (x ≡ true)) ⊎ (((false ≡ true) × (value vs b ≡ true)) ⊎ ((true ≡ true) × (false ≡ true) × (value vs c ≡ true)))
    by true h = inl (refl, refl)
    by false h = absurd (false≢true h)
some_next vs false true a b c h = by (value vs b) h
  where
    by : (y : Bool) → IsTrue (y || false) → ((false ≡ true) × (value vs a ≡ true)) ⊎ (((true ≡ true) × (y ≡ true)) ⊎ ((false ≡ true) × (true ≡ true) × (value vs c ≡ true)))
    by true h = inr (inl (refl, refl))
    by false h = absurd (false≢true h)
some_next vs false false a b c h = absurd (false≢true h)

next_some : (vs : List Bool) (p q : Bool) (a b c : Lit) → ((p ≡ true) × (value vs a ≡ true)) ⊎ (((q ≡ true) × (value vs b ≡ true)) ⊎ ((p ≡ true) × (q ≡ true) × (value vs c ≡ true))) →
    IsTrue (holds vs (only_if p (a ∷ []) ++ (only_if q (b ∷ []) ++ only_if (p && q) (c ∷ []))))
next_some vs true true a b c h = by (value vs a) (value vs b) (value vs c) h
  where
    by : (x y z : Bool) → ((true ≡ true) × (x ≡ true)) ⊎ (((true ≡ true) × (y ≡ true)) ⊎ ((true ≡ true) × (true ≡ true) × (z ≡ true))) → IsTrue (x || (y || (z || false)))
    by true y z h = refl
    by false true z h = refl
    by false false true h = refl
    by false false false (inl (_, e)) = absurd (false≢true e)
    by false false false (inr (inl (_, e))) = absurd (false≢true e)
    by false false false (inr (inr (_, _, e))) = absurd (false≢true e)
next_some vs true false a b c (inl (_, e)) = by (value vs a) e
  where
    by : (x : Bool) → x ≡ true → IsTrue (x || false)
    by true h = refl
    by false h = absurd (false≢true h)
next_some vs true false a b c (inr (inl (e, _))) = absurd (false≢true e)
next_some vs true false a b c (inr (inr (_, e, _))) = absurd (false≢true e)
next_some vs false true a b c (inl (e, _)) = absurd (false≢true e)
next_some vs false true a b c (inr (inl (_, e))) = by (value vs b) e
  where
    by : (x : Bool) → x ≡ true → IsTrue (x || false)
    by true h = refl
    by false h = absurd (false≢true h)
next_some vs false true a b c (inr (inr (e, _, _))) = absurd (false≢true e)
next_some vs false false a b c (inl (e, _)) = absurd (false≢true e)
next_some vs false false a b c (inr (inl (e, _))) = absurd (false≢true e)
next_some vs false false a b c (inr (inr (e, _, _))) = absurd (false≢true e)

-- a clause that begins with a negation
implies : (vs : List Bool) (l : Lit) (rest : List Lit) → IsTrue (holds vs (negation l ∷ rest)) → value vs l ≡ true → IsTrue (holds vs rest)
implies vs l rest h t = subst (λ b. IsTrue (b || holds vs rest)) (value-negation vs l ∙ ap not t) h

implies_back : (vs : List Bool) (l : Lit) (rest : List Lit) → (value vs l ≡ true → IsTrue (holds vs rest)) → IsTrue (holds vs (negation l ∷ rest))
implies_back vs l rest h = subst (λ b. IsTrue (b || holds vs rest)) (sym (value-negation vs l)) (by (value vs l) h)
  where
    by : (b : Bool) → (b ≡ true → IsTrue (holds vs rest)) → IsTrue (not b || holds vs rest)
    by true h = h refl
    by false h = refl

-- what the clauses of the next nodes ask
abbrev pub Goes : ℕ → ℕ → Nodes → Type 0
Goes m n v = (k : Lays) (i j : ℕ) → v k i j ≡ true → i ≤ m → j ≤ n → i + j < m + n →
    ((i < m) × (v left_alone (suc i) j ≡ true)) ⊎ (((j < n) × (v right_alone i (suc j) ≡ true)) ⊎ ((i < m) × (j < n) × (v together (suc i) (suc j) ≡ true)))

pub path_means : (m n : ℕ) (vs : List Bool) → IsTrue (all_hold vs (path_clauses m n)) → (true_nodes (suc n) vs together 0 0 ≡ true) × Goes m n (true_nodes (suc n) vs)
path_means m n vs h = (start (value vs (node_lit (suc n) together 0 0)) parts.0, λ k i j t hi hj more. go k i j t hi hj more)
  where
    parts : IsTrue (holds vs (node_lit (suc n) together 0 0 ∷ [])) × IsTrue (all_hold vs (each_below (suc m) (λ i. each_below (suc n) (λ j. next_clauses m n i j))))
    parts = and_parts (holds vs (node_lit (suc n) together 0 0 ∷ [])) (all_hold vs (each_below (suc m) (λ i. each_below (suc n) (λ j. next_clauses m n i j)))) h

    start : (b : Bool) → IsTrue (b || false) → b ≡ true
    start true h = refl
    start false h = absurd (false≢true h)

    cell : (i j : ℕ) → i ≤ m → j ≤ n → i + j < m + n → IsTrue (all_hold vs ((negation (node_lit (suc n) left_alone i j) ∷ next_lits m n i j) ∷ (negation (node_lit (suc n) right_alone i j) ∷ next_lits m n i j) ∷ (negation (node_lit (suc n) together i j) ∷ next_lits m n i j) ∷ []))
    cell i j hi hj more = only_means vs (nat_lt (i + j) (m + n)) ((negation (node_lit (suc n) left_alone i j) ∷ next_lits m n i j) ∷ (negation (node_lit (suc n) right_alone i j) ∷ next_lits m n i j) ∷ (negation (node_lit (suc n) together i j) ∷ next_lits m n i j) ∷ []) (grind arith)
        (each_means vs (λ j. next_clauses m n i j) (suc n) j (each_means vs (λ i. each_below (suc n) (λ j. next_clauses m n i j)) (suc m) i parts.1 (omega arith)) (omega arith))

    clause : (k : Lays) (i j : ℕ) → i ≤ m → j ≤ n → i + j < m + n → IsTrue (holds vs (negation (node_lit (suc n) k i j) ∷ next_lits m n i j))
    clause left_alone i j hi hj more = (and_parts _ _ (cell i j hi hj more)).0
    clause right_alone i j hi hj more = (and_parts _ _ (and_parts _ _ (cell i j hi hj more)).1).0
    clause together i j hi hj more = (and_parts _ _ (and_parts _ _ (and_parts _ _ (cell i j hi hj more)).1).1).0

    go : Goes m n (true_nodes (suc n) vs)
    go k i j t hi hj more = elim (some_next vs (nat_lt i m) (nat_lt j n) (node_lit (suc n) left_alone (suc i) j) (node_lit (suc n) right_alone i (suc j)) (node_lit (suc n) together (suc i) (suc j)) (implies vs (node_lit (suc n) k i j) (next_lits m n i j) (clause k i j hi hj more) t)) [
      | inl way ↦ inl ((let h = way.0 in grind arith), way.1)
      | inr rest ↦ elim rest [ inl way ↦ inr (inl ((let h = way.0 in grind arith), way.1)) | inr way ↦ inr (inr ((let h = way.0 in grind arith), (let h = way.1 in grind arith), way.2)) ]
    ]

pub path_back : (m n : ℕ) (vs : List Bool) → true_nodes (suc n) vs together 0 0 ≡ true → Goes m n (true_nodes (suc n) vs) → IsTrue (all_hold vs (path_clauses m n))
path_back m n vs start go =
    and_from (holds vs (node_lit (suc n) together 0 0 ∷ [])) (all_hold vs (each_below (suc m) (λ i. each_below (suc n) (λ j. next_clauses m n i j))))
    (first (value vs (node_lit (suc n) together 0 0)) start)
    (each_back vs (λ i. each_below (suc n) (λ j. next_clauses m n i j)) (suc m) (λ i hi. each_back vs (λ j. next_clauses m n i j) (suc n) (λ j hj.
    only_back vs (nat_lt (i + j) (m + n)) ((negation (node_lit (suc n) left_alone i j) ∷ next_lits m n i j) ∷ (negation (node_lit (suc n) right_alone i j) ∷ next_lits m n i j) ∷ (negation (node_lit (suc n) together i j) ∷ next_lits m n i j) ∷ [])
    (λ more. and_from _ _ (clause left_alone i j hi hj more) (and_from _ _ (clause right_alone i j hi hj more) (and_from _ _ (clause together i j hi hj more) refl))))))
  where
    first : (b : Bool) → b ≡ true → IsTrue (b || false)
    first true e = refl
    first false e = absurd (false≢true e)

    clause : (k : Lays) (i j : ℕ) → i < suc m → j < suc n → nat_lt (i + j) (m + n) ≡ true → IsTrue (holds vs (negation (node_lit (suc n) k i j) ∷ next_lits m n i j))
    clause k i j hi hj more = implies_back vs (node_lit (suc n) k i j) (next_lits m n i j) (λ t.
        next_some vs (nat_lt i m) (nat_lt j n) (node_lit (suc n) left_alone (suc i) j) (node_lit (suc n) right_alone i (suc j)) (node_lit (suc n) together (suc i) (suc j))
        (elim (go k i j t (omega arith) (omega arith) (grind arith)) [
          | inl way ↦ inl ((let h = way.0 in grind arith), way.1)
          | inr rest ↦ elim rest [ inl way ↦ inr (inl ((let h = way.0 in grind arith), way.1)) | inr way ↦ inr (inr ((let h = way.0 in grind arith), (let h = way.1 in grind arith), way.2)) ]
        ]))

-- what the clauses of the combinators ask
pub record Joined (xl yl : List Combinator) (v : Nodes) : Type 0 where
  pub left : (i j : ℕ) → i ≤ length xl → j ≤ length yl → v left_alone i j ≡ true → left_fits xl yl i j ≡ true
  pub right : (i j : ℕ) → i ≤ length xl → j ≤ length yl → v right_alone i j ≡ true → right_fits xl yl i j ≡ true
  pub both : (i j : ℕ) → i ≤ length xl → j ≤ length yl → v together i j ≡ true → both_fit xl yl i j ≡ true

same_true : (a b : Bool) → same_bool a b ≡ true → a ≡ b
same_true true true h = refl
same_true true false h = absurd (false≢true h)
same_true false true h = absurd (false≢true h)
same_true false false h = refl

-- together: the grid that a walk goes through
pub grid_means : (xl yl : List Combinator) (v : Nodes) → Goes (length xl) (length yl) v → Joined xl yl v → Grid xl yl v
grid_means xl yl v go joined = record {
  go = go;
  left = λ i j hi hj t. joined.left (suc i) j (omega arith) hj t;
  right = λ i j hi hj t. joined.right i (suc j) hi (omega arith) t;
  both = λ i j hi hj t. same_true (goes_up_at xl (suc i)) (goes_up_at yl (suc j)) (joined.both (suc i) (suc j) (omega arith) (omega arith) t);
}
