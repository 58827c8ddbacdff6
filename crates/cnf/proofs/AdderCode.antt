-- The formula that the code of the adders leaves.
use Rattle.std.proofs.Common.{◌≡◌, ◌+◌, ◌≤◌, ℕ, IsTrue, Option, None, List, [], ◌∷◌, ◌++◌, length, drop, get_or, ◌<◌, sym, ap, ◌∙◌, arith}
use Rattle.std.proofs.lemmas.List.{append_assoc, at_drop_more}
use Rattle.cnf.specs.declared.lit.Lit.{Lit}
use Rattle.cnf.specs.Cnf.{Cnf}
use Rattle.cnf.specs.Gates.{with_fresh, with_clauses}
use Rattle.cnf.specs.Lits.{negation, positive}
use Rattle.cnf.specs.Sums.{with_two_fresh, half_adder_clauses, full_adder_clauses, with_cell, with_columns, option_below}
use Rattle.cnf.proofs.GrowLemmas.{cell-grows, columns-grows, cell_carry-below}

-- two fresh variables, and clauses in two calls
pub two_calls : (f g h i j : Cnf) (a b : List (List Lit)) → g ≡ with_fresh f → h ≡ with_fresh g → i ≡ with_clauses h a → j ≡ with_clauses i b → j ≡ with_clauses (with_two_fresh f) (a ++ b)
two_calls f g h i j a b one two first second =
    second
    ∙ (ap (λ k. with_clauses k b) (first ∙ ap (λ k. with_clauses k a) (two ∙ ap with_fresh one))
    ∙ (ap (make (f.vars + 1 + 1)) (append_assoc f.clauses a b) ∙ ap (λ n. make n (f.clauses ++ (a ++ b))) (sum_of f.vars)))
  where
    make : ℕ → List (List Lit) → Cnf
    make n cs = record { vars = n; clauses = cs }

    sum_of : (n : ℕ) → n + 1 + 1 ≡ n + 2
    sum_of n = omega arith

pub second_fresh : (f g : Cnf) (l : Lit) → g ≡ with_fresh f → l ≡ positive g.vars → l ≡ positive (f.vars + 1)
second_fresh f g l e h = h ∙ ap (λ k. positive k.vars) e

pub half_adder_rows : (x y s c s' c' no_x no_y no_s no_c : Lit) → s ≡ s' → c ≡ c' → no_x ≡ negation x → no_y ≡ negation y → no_s ≡ negation s → no_c ≡ negation c → ((no_c ∷ x ∷ []) ∷ (no_c ∷ y ∷ []) ∷ (no_c ∷ no_s ∷ []) ∷ (c ∷ no_x ∷ no_y ∷ []) ∷ (no_s ∷ x ∷ y ∷ []) ∷ (no_s ∷ no_x ∷ no_y ∷ []) ∷ (s ∷ no_x ∷ y ∷ []) ∷ (s ∷ x ∷ no_y ∷ []) ∷ []) ≡ half_adder_clauses x y s' c'
unfolding half_adder_clauses
half_adder_rows x y s c s' c' no_x no_y no_s no_c es ec ex ey ens enc = rw (ex, ey, ens, enc, es, ec)

pub full_adder_rows : (x y z s c s' c' no_x no_y no_z no_s no_c : Lit) → s ≡ s' → c ≡ c' → no_x ≡ negation x → no_y ≡ negation y → no_z ≡ negation z → no_s ≡ negation s → no_c ≡ negation c → ((no_c ∷ x ∷ y ∷ []) ∷ (no_c ∷ x ∷ z ∷ []) ∷ (no_c ∷ y ∷ z ∷ []) ∷ (c ∷ no_x ∷ no_y ∷ []) ∷ (c ∷ no_x ∷ no_z ∷ []) ∷ (c ∷ no_y ∷ no_z ∷ []) ∷ (no_c ∷ no_s ∷ x ∷ []) ∷ (no_c ∷ no_s ∷ y ∷ []) ∷ (no_c ∷ no_s ∷ z ∷ []) ∷ (c ∷ s ∷ no_x ∷ []) ∷ (c ∷ s ∷ no_y ∷ []) ∷ (c ∷ s ∷ no_z ∷ []) ∷ (no_s ∷ x ∷ y ∷ z ∷ []) ∷ (no_s ∷ x ∷ no_y ∷ no_z ∷ []) ∷ (no_s ∷ no_x ∷ y ∷ no_z ∷ []) ∷ (no_s ∷ no_x ∷ no_y ∷ z ∷ []) ∷ (s ∷ no_x ∷ y ∷ z ∷ []) ∷ (s ∷ x ∷ no_y ∷ z ∷ []) ∷ (s ∷ x ∷ y ∷ no_z ∷ []) ∷ (s ∷ no_x ∷ no_y ∷ no_z ∷ []) ∷ []) ≡ full_adder_clauses x y z s' c'
unfolding full_adder_clauses
full_adder_rows x y z s c s' c' no_x no_y no_z no_s no_c es ec ex ey ez ens enc = rw (ex, ey, ez, ens, enc, es, ec)

-- what the columns that are left make of the sums so far
pub record SumsSoFar (start : Cnf) (all : List (Lit × Option Lit)) (f : Cnf) (sums : List Lit) (carry : Option Lit) (left : List (Lit × Option Lit)) : Type 0 where
  pub formula : (with_columns f carry left).formula ≡ (with_columns start None all).formula
  pub sums_are : sums ++ (with_columns f carry left).sums ≡ (with_columns start None all).sums
  pub carry_is : (with_columns f carry left).carry ≡ (with_columns start None all).carry
  pub carry_below : IsTrue (option_below f.vars carry)
  pub grows : start.vars ≤ f.vars

-- one column more
pub cell_room : (start f : Cnf) (all : List (Lit × Option Lit)) (sums : List Lit) (carry : Option Lit) (k : ℕ) (d : Lit × Option Lit) (n : ℕ) → SumsSoFar start all f sums carry (drop k all) → k < length all → (with_columns start None all).formula.vars ≤ n → (with_cell f (get_or all k d).0 (get_or all k d).1 carry).formula.vars ≤ n
cell_room start f all sums carry k d n s b room =
    let cell = with_cell f (get_or all k d).0 (get_or all k d).1 carry in
    let whole = at_drop_more (λ cs. (with_columns f carry cs).formula.vars) all k d b in
    let rest = columns-grows cell.formula cell.carry (drop (k + 1) all) in
    let same = ap (λ h. h.vars) s.formula in
    omega (arith, whole, rest, same)

pub next_column : (start f g : Cnf) (all : List (Lit × Option Lit)) (sums sums' : List Lit) (carry carry' : Option Lit) (k : ℕ) (d : Lit × Option Lit) → SumsSoFar start all f sums carry (drop k all) → k < length all → g ≡ (with_cell f (get_or all k d).0 (get_or all k d).1 carry).formula → sums' ≡ sums ++ (with_cell f (get_or all k d).0 (get_or all k d).1 carry).sum ∷ [] → carry' ≡ (with_cell f (get_or all k d).0 (get_or all k d).1 carry).carry → SumsSoFar start all g sums' carry' (drop (k + 1) all)
next_column start f g all sums sums' carry carry' k d s b eg es ec =
    let x = (get_or all k d).0 in
    let y = (get_or all k d).1 in
    let cell = with_cell f x y carry in
    let rest = with_columns cell.formula cell.carry (drop (k + 1) all) in
    record {
      formula =
          rw (eg, ec) (sym (at_drop_more (λ cs. (with_columns f carry cs).formula) all k d b) ∙ s.formula);
      sums_are =
          rw (eg, ec, es) (append_assoc sums (cell.sum ∷ []) rest.sums ∙ (sym (ap (λ ls. sums ++ ls) (at_drop_more (λ cs. (with_columns f carry cs).sums) all k d b)) ∙ s.sums_are));
      carry_is = rw (eg, ec) (sym (at_drop_more (λ cs. (with_columns f carry cs).carry) all k d b) ∙ s.carry_is);
      carry_below = rw (eg, ec) (cell_carry-below f x y carry);
      grows = let up = cell-grows f x y carry in let same = ap (λ h. h.vars) eg in omega (arith, s.grows, up, same);
    }
