-- Where a test holds, for each number below a bound, and clauses behind a literal.
use Rattle.std.proofs.Common.{Bool, IsTrue, List, [], ap, arith, false, inl, inr, not, refl, subst, suc, sym, true, zero, ℕ, ◌++◌, ◌<◌, ◌||◌, ◌∙◌, ◌∷◌, ◌≡◌, ◌⊎◌}
use Rattle.std.proofs.lemmas.Bool.{and_from, and_parts, false≢true}
use Rattle.std.specs.List.{list_all}
use Rattle.formula_laws.proofs.Items.Items.{Item, both_items, clauses_item, no_item}
use Rattle.formula_laws.specs.Counts.{implied, steps_below, when}
use Rattle.cnf.proofs.ForCallers.{is_below-negation, value-negation}
use Rattle.cnf.specs.Cnf.{Cnf}
use Rattle.cnf.specs.Gates.{with_clauses}
use Rattle.cnf.specs.Lits.{are_below, is_below, negation}
use Rattle.cnf.specs.Values.{all_hold, holds, value}
use Rattle.cnf.specs.declared.lit.Lit.{Lit}

-- the same part, said otherwise
pub item_as : (base : ℕ) (s : Cnf → Cnf) (P Q : List Bool → Type 0) → ((vs : List Bool) → P vs → Q vs) → ((vs : List Bool) → Q vs → P vs) → Item base s P → Item base s Q
item_as base s P Q to from item = record {
  more_vars = item.more_vars;
  in_range = item.in_range;
  sound = λ f vs low r h. let p = item.sound f vs low r h in (p.0, to vs p.1);
  complete = λ f vs low r sat q. item.complete f vs low r sat (from vs q);
  stable = λ vs more low q. to (vs ++ more) (item.stable vs more low (from vs q));
}

pub when_item : (base : ℕ) (b : Bool) (s : Cnf → Cnf) (P : List Bool → Type 0) → (b ≡ true → Item base s P) → Item base (λ f. when b s f) (λ vs. b ≡ true → P vs)
when_item base true s P item = item_as base s P (λ vs. true ≡ true → P vs) (λ vs p _. p) (λ vs p. p refl) (item refl)
when_item base false s P item = item_as base (λ f. f) (λ vs. Unit {0}) (λ vs. false ≡ true → P vs) (λ vs _ e. absurd (false≢true e)) (λ vs _. tt) (no_item base)

pub below_item : (base n : ℕ) (step : ℕ → Cnf → Cnf) (P : ℕ → List Bool → Type 0) → ((k : ℕ) → k < n → Item base (step k) (P k)) → Item base (λ f. steps_below n step f) (λ vs. (k : ℕ) → k < n → P k vs)
below_item base zero step P each = item_as base (λ f. f) (λ vs. Unit {0}) (λ vs. (k : ℕ) → k < 0 → P k vs) (λ vs _ k less. absurd (omega arith)) (λ vs _. tt) (no_item base)
below_item base (suc n) step P each =
    item_as base (λ f. step n (steps_below n step f)) (λ vs. ((k : ℕ) → k < n → P k vs) × P n vs) (λ vs. (k : ℕ) → k < suc n → P k vs)
    (λ vs p k less. elim (last_or k n less) [ inl below ↦ p.0 k below | inr is ↦ subst (λ (m : ℕ). P m vs) (sym is) p.1 ])
    (λ vs p. (λ k less. p k (omega arith), p n (omega arith)))
    (both_items base (λ f. steps_below n step f) (step n) (λ vs. (k : ℕ) → k < n → P k vs) (P n) (below_item base n step P (λ k less. each k (omega arith))) (each n (omega arith)))
  where
    last_or : (k n : ℕ) → k < suc n → (k < n) ⊎ (k ≡ n)
    last_or k n h = grind arith

-- a clause that begins with a negation
pub implies : (vs : List Bool) (l : Lit) (rest : List Lit) → IsTrue (holds vs (negation l ∷ rest)) → value vs l ≡ true → IsTrue (holds vs rest)
implies vs l rest h t = subst (λ b. IsTrue (b || holds vs rest)) (value-negation vs l ∙ ap not t) h

pub implies_back : (vs : List Bool) (l : Lit) (rest : List Lit) → (value vs l ≡ true → IsTrue (holds vs rest)) → IsTrue (holds vs (negation l ∷ rest))
implies_back vs l rest h = subst (λ b. IsTrue (b || holds vs rest)) (sym (value-negation vs l)) (by (value vs l) h)
  where
    by : (b : Bool) → (b ≡ true → IsTrue (holds vs rest)) → IsTrue (not b || holds vs rest)
    by true h = h refl
    by false h = refl

pub implied_means : (vs : List Bool) (l : Lit) (cs : List (List Lit)) → IsTrue (all_hold vs (implied l cs)) → value vs l ≡ true → IsTrue (all_hold vs cs)
implied_means vs l [] h t = refl
implied_means vs l (c ∷ cs) h t =
    let p = and_parts (holds vs (negation l ∷ c)) (all_hold vs (implied l cs)) h in
    and_from (holds vs c) (all_hold vs cs) (implies vs l c p.0 t) (implied_means vs l cs p.1 t)

pub implied_back : (vs : List Bool) (l : Lit) (cs : List (List Lit)) → (value vs l ≡ true → IsTrue (all_hold vs cs)) → IsTrue (all_hold vs (implied l cs))
implied_back vs l [] h = refl
implied_back vs l (c ∷ cs) h =
    and_from (holds vs (negation l ∷ c)) (all_hold vs (implied l cs)) (implies_back vs l c (λ t. (and_parts (holds vs c) (all_hold vs cs) (h t)).0))
    (implied_back vs l cs (λ t. (and_parts (holds vs c) (all_hold vs cs) (h t)).1))

pub implied_below : (n : ℕ) (l : Lit) (cs : List (List Lit)) → IsTrue (is_below n l) → IsTrue (list_all (are_below n) cs) → IsTrue (list_all (are_below n) (implied l cs))
implied_below n l [] hl hc = refl
implied_below n l (c ∷ cs) hl hc =
    let p = and_parts (are_below n c) (list_all (are_below n) cs) hc in
    and_from (are_below n (negation l ∷ c)) (list_all (are_below n) (implied l cs)) (and_from (is_below n (negation l)) (are_below n c) (is_below-negation n l hl) p.0) (implied_below n l cs hl p.1)

pub implied_item : (base : ℕ) (l : Lit) (cs : List (List Lit)) → IsTrue (is_below base l) → IsTrue (list_all (are_below base) cs) →
    Item base (λ f. with_clauses f (implied l cs)) (λ vs. value vs l ≡ true → IsTrue (all_hold vs cs))
implied_item base l cs hl hc = item_as base (λ f. with_clauses f (implied l cs)) (λ vs. IsTrue (all_hold vs (implied l cs))) (λ vs. value vs l ≡ true → IsTrue (all_hold vs cs))
    (λ vs h. implied_means vs l cs h) (λ vs h. implied_back vs l cs h) (clauses_item base (implied l cs) (implied_below base l cs hl hc))
