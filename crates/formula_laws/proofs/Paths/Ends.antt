-- The last cell, the root, and the refused nodes.
use Rattle.std.proofs.Common.{Bool, IsTrue, List, [], ap, arith, false, inl, inr, not, refl, suc, sym, true, zero, ℕ, ◌&&◌, ◌*◌, ◌++◌, ◌<◌, ◌||◌, ◌∙◌, ◌∷◌, ◌≡◌, ◌≤◌, ◌⊎◌}
use Rattle.std.proofs.lemmas.Bool.{and_from, and_parts, false≢true}
use Rattle.std.specs.List.{list_all}
use Rattle.formula_laws.proofs.Items.Items.{Item, clauses_item}
use Rattle.formula_laws.proofs.Items.MoreItems.{implied_back, implied_below, implied_means, implies, implies_back, item_as}
use Rattle.formula_laws.proofs.Items.Ranges.{node_below}
use Rattle.formula_laws.proofs.Numbers.Related.{digits_back, digits_below, digits_means}
use Rattle.formula_laws.proofs.Paths.Pathway.{each_back, each_means}
use Rattle.formula_laws.specs.Allowed.{cell_clauses, node_clauses, whole_clauses}
use Rattle.formula_laws.specs.Counts.{implied}
use Rattle.formula_laws.specs.Path.{each_below, last_clauses, node_lit, true_nodes, unless}
use Rattle.formula_laws.specs.Relations.{same_digits}
use Rattle.formula_laws.specs.Root.{root_clauses, top_clauses}
use Rattle.cnf.proofs.ForCallers.{is_below-negation, list_all-append-from, list_all-append-parts, one_below, pair_below, triple_below, value-negation}
use Rattle.cnf.specs.Gates.{not_both, with_clauses}
use Rattle.cnf.specs.Lits.{are_below, is_below, negation}
use Rattle.cnf.specs.Sums.{number}
use Rattle.cnf.specs.Values.{all_hold, holds, value}
use Rattle.cnf.specs.declared.lit.Lit.{Lit}
use Rattle.grid_laws.specs.Grid.{Lays, Nodes, has_left, has_right, left_alone, right_alone, together}

-- not two of them
not_two_means : (vs : List Bool) (k l : Lit) → IsTrue (holds vs (negation k ∷ negation l ∷ [])) → value vs k ≡ true → value vs l ≡ true → ⊥
not_two_means vs k l h hk hl = false≢true (sym (ap (λ b. b || (value vs (negation l) || false)) (value-negation vs k ∙ ap not hk) ∙ ap (λ b. b || false) (value-negation vs l ∙ ap not hl)) ∙ h)

not_two_back : (vs : List Bool) (k l : Lit) → (value vs k ≡ true → value vs l ≡ true → ⊥) → IsTrue (holds vs (negation k ∷ negation l ∷ []))
not_two_back vs k l never = implies_back vs k (negation l ∷ []) (λ t. implies_back vs l [] (λ u. absurd (never t u)))

-- exactly one node of the last cell
pub record OneLast (m n : ℕ) (v : Nodes) : Type 0 where
  pub some : (v left_alone m n ≡ true) ⊎ ((v right_alone m n ≡ true) ⊎ (v together m n ≡ true))
  pub one : (k l : Lays) → v k m n ≡ true → v l m n ≡ true → k ≡ l

last_means : (m n : ℕ) (vs : List Bool) → IsTrue (all_hold vs (last_clauses m n)) → OneLast m n (true_nodes (suc n) vs)
last_means m n vs h = record { some = some (value vs x) (value vs y) (value vs b) p0.0; one = one }
  where
    x : Lit
    x = node_lit (suc n) left_alone m n

    y : Lit
    y = node_lit (suc n) right_alone m n

    b : Lit
    b = node_lit (suc n) together m n

    p0 : IsTrue (holds vs (x ∷ y ∷ b ∷ [])) × IsTrue (all_hold vs (not_both (x ∷ y ∷ b ∷ [])))
    p0 = and_parts (holds vs (x ∷ y ∷ b ∷ [])) (all_hold vs (not_both (x ∷ y ∷ b ∷ []))) h

    p1 : IsTrue (holds vs (negation x ∷ negation y ∷ [])) × IsTrue (all_hold vs ((negation x ∷ negation b ∷ []) ∷ (negation y ∷ negation b ∷ []) ∷ []))
    p1 = and_parts (holds vs (negation x ∷ negation y ∷ [])) (all_hold vs ((negation x ∷ negation b ∷ []) ∷ (negation y ∷ negation b ∷ []) ∷ [])) p0.1

    p2 : IsTrue (holds vs (negation x ∷ negation b ∷ [])) × IsTrue (all_hold vs ((negation y ∷ negation b ∷ []) ∷ []))
    p2 = and_parts (holds vs (negation x ∷ negation b ∷ [])) (all_hold vs ((negation y ∷ negation b ∷ []) ∷ [])) p1.1

    p3 : IsTrue (holds vs (negation y ∷ negation b ∷ [])) × IsTrue (all_hold vs [])
    p3 = and_parts (holds vs (negation y ∷ negation b ∷ [])) (all_hold vs []) p2.1

    some : (a c d : Bool) → IsTrue (a || (c || (d || false))) → (a ≡ true) ⊎ ((c ≡ true) ⊎ (d ≡ true))
    some true c d h = inl refl
    some false true d h = inr (inl refl)
    some false false true h = inr (inr refl)
    some false false false h = absurd (false≢true h)

    one : (k l : Lays) → true_nodes (suc n) vs k m n ≡ true → true_nodes (suc n) vs l m n ≡ true → k ≡ l
    one left_alone left_alone hk hl = refl
    one left_alone right_alone hk hl = absurd (not_two_means vs x y p1.0 hk hl)
    one left_alone together hk hl = absurd (not_two_means vs x b p2.0 hk hl)
    one right_alone left_alone hk hl = absurd (not_two_means vs x y p1.0 hl hk)
    one right_alone right_alone hk hl = refl
    one right_alone together hk hl = absurd (not_two_means vs y b p3.0 hk hl)
    one together left_alone hk hl = absurd (not_two_means vs x b p2.0 hl hk)
    one together right_alone hk hl = absurd (not_two_means vs y b p3.0 hl hk)
    one together together hk hl = refl

last_back : (m n : ℕ) (vs : List Bool) → OneLast m n (true_nodes (suc n) vs) → IsTrue (all_hold vs (last_clauses m n))
last_back m n vs h =
    and_from (holds vs (x ∷ y ∷ b ∷ [])) (all_hold vs (not_both (x ∷ y ∷ b ∷ []))) (some (value vs x) (value vs y) (value vs b) h.some)
    (and_from (holds vs (negation x ∷ negation y ∷ [])) _ (not_two_back vs x y (λ t u. false≢true (sym (ap has_left (h.one left_alone right_alone t u)))))
    (and_from (holds vs (negation x ∷ negation b ∷ [])) _ (not_two_back vs x b (λ t u. false≢true (ap has_right (h.one left_alone together t u))))
    (and_from (holds vs (negation y ∷ negation b ∷ [])) true (not_two_back vs y b (λ t u. false≢true (ap has_left (h.one right_alone together t u)))) refl)))
  where
    x : Lit
    x = node_lit (suc n) left_alone m n

    y : Lit
    y = node_lit (suc n) right_alone m n

    b : Lit
    b = node_lit (suc n) together m n

    some : (a c d : Bool) → (a ≡ true) ⊎ ((c ≡ true) ⊎ (d ≡ true)) → IsTrue (a || (c || (d || false)))
    some true c d h = refl
    some false true d h = refl
    some false false true h = refl
    some false false false (inl e) = absurd (false≢true e)
    some false false false (inr (inl e)) = absurd (false≢true e)
    some false false false (inr (inr e)) = absurd (false≢true e)

pub last_item : (base m n : ℕ) → 3 * (suc m * suc n) ≤ base → Item base (λ f. with_clauses f (last_clauses m n)) (λ vs. OneLast m n (true_nodes (suc n) vs))
last_item base m n room = item_as base (λ f. with_clauses f (last_clauses m n)) (λ vs. IsTrue (all_hold vs (last_clauses m n))) (λ vs. OneLast m n (true_nodes (suc n) vs)) (last_means m n) (last_back m n)
    (clauses_item base (last_clauses m n) (and_from (are_below base (x ∷ y ∷ b ∷ [])) _ (triple_below base x y b hx hy hb)
    (and_from (are_below base (negation x ∷ negation y ∷ [])) _ (pair_below base (negation x) (negation y) (is_below-negation base x hx) (is_below-negation base y hy))
    (and_from (are_below base (negation x ∷ negation b ∷ [])) _ (pair_below base (negation x) (negation b) (is_below-negation base x hx) (is_below-negation base b hb))
    (and_from (are_below base (negation y ∷ negation b ∷ [])) true (pair_below base (negation y) (negation b) (is_below-negation base y hy) (is_below-negation base b hb)) refl)))))
  where
    x : Lit
    x = node_lit (suc n) left_alone m n

    y : Lit
    y = node_lit (suc n) right_alone m n

    b : Lit
    b = node_lit (suc n) together m n

    hx : IsTrue (is_below base x)
    hx = node_below m n left_alone m n base (omega arith) (omega arith) room

    hy : IsTrue (is_below base y)
    hy = node_below m n right_alone m n base (omega arith) (omega arith) room

    hb : IsTrue (is_below base b)
    hb = node_below m n together m n base (omega arith) (omega arith) room

-- a literal for "root, and not l"
abbrev pub root_table : Bool → Bool → Bool → Bool
root_table r o l = (not r || (o || false)) && ((not r || (not l || false)) && ((r || (not o || (l || false))) && true))

root_value : (vs : List Bool) (r o l : Lit) → all_hold vs (root_clauses r o l) ≡ root_table (value vs r) (value vs o) (value vs l)
root_value vs r o l = simp value-negation

root_mean : (r o l : Bool) → IsTrue (root_table r o l) → r ≡ (o && not l)
root_mean true true true h = absurd (false≢true h)
root_mean true true false h = refl
root_mean true false l h = absurd (false≢true h)
root_mean false true true h = refl
root_mean false true false h = absurd (false≢true h)
root_mean false false l h = refl

root_hold : (r o l : Bool) → r ≡ (o && not l) → IsTrue (root_table r o l)
root_hold true true true h = absurd (false≢true (sym h))
root_hold true true false h = refl
root_hold true false l h = absurd (false≢true (sym h))
root_hold false true true h = refl
root_hold false true false h = absurd (false≢true h)
root_hold false false l h = refl

pub root_item : (base : ℕ) (r o l : Lit) → IsTrue (is_below base r) → IsTrue (is_below base o) → IsTrue (is_below base l) → Item base (λ f. with_clauses f (root_clauses r o l)) (λ vs. value vs r ≡ (value vs o && not (value vs l)))
root_item base r o l hr ho hl = item_as base (λ f. with_clauses f (root_clauses r o l)) (λ vs. IsTrue (all_hold vs (root_clauses r o l))) (λ vs. value vs r ≡ (value vs o && not (value vs l)))
    (λ vs h. root_mean (value vs r) (value vs o) (value vs l) (sym (root_value vs r o l) ∙ h)) (λ vs h. root_value vs r o l ∙ root_hold (value vs r) (value vs o) (value vs l) h)
    (clauses_item base (root_clauses r o l) (and_from (are_below base (negation r ∷ o ∷ [])) _ (pair_below base (negation r) o (is_below-negation base r hr) ho)
    (and_from (are_below base (negation r ∷ negation l ∷ [])) _ (pair_below base (negation r) (negation l) (is_below-negation base r hr) (is_below-negation base l hl))
    (and_from (are_below base (r ∷ negation o ∷ l ∷ [])) true (triple_below base r (negation o) l hr (is_below-negation base o ho) hl) refl))))

-- a literal that is refused
unless_means : (vs : List Bool) (fits : Bool) (l : Lit) → IsTrue (all_hold vs (unless fits l)) → value vs l ≡ true → fits ≡ true
unless_means vs true l h t = refl
unless_means vs false l h t = absurd (false≢true (implies vs l [] (and_parts (holds vs (negation l ∷ [])) true h).0 t))

unless_back : (vs : List Bool) (fits : Bool) (l : Lit) → (value vs l ≡ true → fits ≡ true) → IsTrue (all_hold vs (unless fits l))
unless_back vs true l h = refl
unless_back vs false l h = and_from (holds vs (negation l ∷ [])) true (implies_back vs l [] (λ t. absurd (false≢true (h t)))) refl

pub unless_below : (n : ℕ) (fits : Bool) (l : Lit) → IsTrue (is_below n l) → IsTrue (list_all (are_below n) (unless fits l))
unless_below n true l h = refl
unless_below n false l h = and_from (are_below n (negation l ∷ [])) true (one_below n (negation l) (is_below-negation n l h)) refl

-- the root
abbrev pub TopSays : Lit → Bool → List Lit → List Lit → List Bool → Type 0
TopSays r up b a vs = value vs r ≡ true → (up ≡ true) × (number vs b ≡ 0) × (number vs a ≡ 0)

pub top_item : (base : ℕ) (r : Lit) (up : Bool) (b a : List Lit) → IsTrue (is_below base r) → IsTrue (are_below base b) → IsTrue (are_below base a) → Item base (λ f. with_clauses f (top_clauses r up b a)) (TopSays r up b a)
top_item base r up b a hr hb ha = item_as base (λ f. with_clauses f (top_clauses r up b a)) (λ vs. IsTrue (all_hold vs (top_clauses r up b a))) (TopSays r up b a)
    (λ vs h t.
    let p = list_all-append-parts (holds vs) (unless up r) (implied r (same_digits b [] ++ same_digits a [])) h in
    let q = list_all-append-parts (holds vs) (same_digits b []) (same_digits a []) (implied_means vs r (same_digits b [] ++ same_digits a []) p.1 t) in
    (unless_means vs up r p.0 t, digits_means vs b [] (omega arith) q.0, digits_means vs a [] (omega arith) q.1))
    (λ vs h. list_all-append-from (holds vs) (unless up r) (implied r (same_digits b [] ++ same_digits a [])) (unless_back vs up r (λ t. (h t).0))
    (implied_back vs r (same_digits b [] ++ same_digits a []) (λ t. list_all-append-from (holds vs) (same_digits b []) (same_digits a []) (digits_back vs b [] (omega arith) (h t).1) (digits_back vs a [] (omega arith) (h t).2))))
    (clauses_item base (top_clauses r up b a) (list_all-append-from (are_below base) (unless up r) (implied r (same_digits b [] ++ same_digits a [])) (unless_below base up r hr)
    (implied_below base r (same_digits b [] ++ same_digits a []) hr (list_all-append-from (are_below base) (same_digits b []) (same_digits a []) (digits_below base b [] hb refl) (digits_below base a [] ha refl)))))

pub each_in_range : (base : ℕ) (make : ℕ → List (List Lit)) (n : ℕ) → ((k : ℕ) → k < n → IsTrue (list_all (are_below base) (make k))) → IsTrue (list_all (are_below base) (each_below n make))
each_in_range base make zero each = refl
each_in_range base make (suc n) each = list_all-append-from (are_below base) (each_below n make) (make n) (each_in_range base make n (λ k h. each k (omega arith))) (each n (omega arith))

-- refused nodes are false
abbrev pub NodesFit : ℕ → ℕ → (Lays → ℕ → ℕ → Bool) → Nodes → Type 0
NodesFit m n fits v = (k : Lays) (i j : ℕ) → i ≤ m → j ≤ n → v k i j ≡ true → fits k i j ≡ true

pub node_item : (base m n : ℕ) (fits : Lays → ℕ → ℕ → Bool) → 3 * (suc m * suc n) ≤ base → Item base (λ f. with_clauses f (node_clauses m n fits)) (λ vs. NodesFit m n fits (true_nodes (suc n) vs))
node_item base m n fits room = item_as base (λ f. with_clauses f (node_clauses m n fits)) (λ vs. IsTrue (all_hold vs (node_clauses m n fits))) (λ vs. NodesFit m n fits (true_nodes (suc n) vs)) means back
    (clauses_item base (node_clauses m n fits) (each_in_range base (λ i. each_below (suc n) (λ j. cell_clauses n fits i j)) (suc m) (λ i hi. each_in_range base (λ j. cell_clauses n fits i j) (suc n) (λ j hj.
    list_all-append-from (are_below base) (unless (fits left_alone i j) (node_lit (suc n) left_alone i j)) _ (unless_below base (fits left_alone i j) (node_lit (suc n) left_alone i j) (node_below m n left_alone i j base (omega arith) (omega arith) room))
    (list_all-append-from (are_below base) (unless (fits right_alone i j) (node_lit (suc n) right_alone i j)) _ (unless_below base (fits right_alone i j) (node_lit (suc n) right_alone i j) (node_below m n right_alone i j base (omega arith) (omega arith) room))
    (unless_below base (fits together i j) (node_lit (suc n) together i j) (node_below m n together i j base (omega arith) (omega arith) room)))))))
  where
    means : (vs : List Bool) → IsTrue (all_hold vs (node_clauses m n fits)) → NodesFit m n fits (true_nodes (suc n) vs)
    means vs h k i j hi hj t = by k t
      where
        cell : IsTrue (all_hold vs (unless (fits left_alone i j) (node_lit (suc n) left_alone i j))) × IsTrue (all_hold vs (unless (fits right_alone i j) (node_lit (suc n) right_alone i j) ++ unless (fits together i j) (node_lit (suc n) together i j)))
        cell = list_all-append-parts (holds vs) (unless (fits left_alone i j) (node_lit (suc n) left_alone i j)) (unless (fits right_alone i j) (node_lit (suc n) right_alone i j) ++ unless (fits together i j) (node_lit (suc n) together i j))
            (each_means vs (λ j. cell_clauses n fits i j) (suc n) j (each_means vs (λ i. each_below (suc n) (λ j. cell_clauses n fits i j)) (suc m) i h (omega arith)) (omega arith))

        rest : IsTrue (all_hold vs (unless (fits right_alone i j) (node_lit (suc n) right_alone i j))) × IsTrue (all_hold vs (unless (fits together i j) (node_lit (suc n) together i j)))
        rest = list_all-append-parts (holds vs) (unless (fits right_alone i j) (node_lit (suc n) right_alone i j)) (unless (fits together i j) (node_lit (suc n) together i j)) cell.1

        by : (k : Lays) → true_nodes (suc n) vs k i j ≡ true → fits k i j ≡ true
        by left_alone t = unless_means vs (fits left_alone i j) (node_lit (suc n) left_alone i j) cell.0 t
        by right_alone t = unless_means vs (fits right_alone i j) (node_lit (suc n) right_alone i j) rest.0 t
        by together t = unless_means vs (fits together i j) (node_lit (suc n) together i j) rest.1 t

    back : (vs : List Bool) → NodesFit m n fits (true_nodes (suc n) vs) → IsTrue (all_hold vs (node_clauses m n fits))
    back vs h = each_back vs (λ i. each_below (suc n) (λ j. cell_clauses n fits i j)) (suc m) (λ i hi. each_back vs (λ j. cell_clauses n fits i j) (suc n) (λ j hj.
        list_all-append-from (holds vs) (unless (fits left_alone i j) (node_lit (suc n) left_alone i j)) _
        (unless_back vs (fits left_alone i j) (node_lit (suc n) left_alone i j) (h left_alone i j (omega arith) (omega arith)))
        (list_all-append-from (holds vs) (unless (fits right_alone i j) (node_lit (suc n) right_alone i j)) _
        (unless_back vs (fits right_alone i j) (node_lit (suc n) right_alone i j) (h right_alone i j (omega arith) (omega arith)))
        (unless_back vs (fits together i j) (node_lit (suc n) together i j) (h together i j (omega arith) (omega arith))))))

-- what is refused for the whole pair
pub whole_item : (base : ℕ) (fits : Bool) → Item base (λ f. with_clauses f (whole_clauses fits)) (λ vs. fits ≡ true)
whole_item base true = item_as base (λ f. with_clauses f []) (λ vs. IsTrue (all_hold vs [])) (λ vs. true ≡ true) (λ vs h. refl) (λ vs h. refl) (clauses_item base [] refl)
whole_item base false = item_as base (λ f. with_clauses f ([] ∷ [])) (λ vs. IsTrue (all_hold vs ([] ∷ []))) (λ vs. false ≡ true) (λ vs h. h) (λ vs h. h) (clauses_item base ([] ∷ []) refl)
