-- A list of values by a rule, and the rule for the nodes.
use Rattle.std.proofs.Common.{Bool, List, [], ap, arith, false, get_or, inl, inr, length, refl, suc, sym, zero, ℕ, ◌%◌, ◌*◌, ◌++◌, ◌+◌, ◌/◌, ◌<◌, ◌∙◌, ◌∷◌, ◌≡◌, ◌⊎◌}
use Rattle.std.proofs.lemmas.List.{get_or_append_left, get_or_push, length_push}
use Rattle.formula_laws.specs.Path.{node}
use Rattle.cnf.proofs.ForCallers.{quotient_of, remainder_of, value-positive}
use Rattle.cnf.specs.Lits.{positive}
use Rattle.cnf.specs.Values.{value}
use Rattle.grid_laws.specs.Grid.{Lays, Nodes, left_alone, right_alone, together}

abbrev pub table : ℕ → (ℕ → Bool) → List Bool
table zero rule = []
table (suc n) rule = table n rule ++ rule n ∷ []

pub length-table : (n : ℕ) (rule : ℕ → Bool) → length (table n rule) ≡ n
length-table zero rule = refl
length-table (suc n) rule = length_push (table n rule) (rule n) ∙ (let l = length-table n rule in omega arith)

pub table_at : (n : ℕ) (rule : ℕ → Bool) (k : ℕ) → k < n → value (table n rule) (positive k) ≡ rule k
table_at n rule k h = value-positive (table n rule) k ∙ at n h
  where
    at : (n : ℕ) → k < n → get_or (table n rule) k false ≡ rule k
    at zero h = absurd (omega arith)
    at (suc n) h = by (last_or n h) (at n)
      where
        last_or : (n : ℕ) → k < suc n → (k < n) ⊎ (k ≡ n)
        last_or n h = grind arith

        by : (k < n) ⊎ (k ≡ n) → (k < n → get_or (table n rule) k false ≡ rule k) → get_or (table (suc n) rule) k false ≡ rule k
        by (inl less) ih = get_or_append_left (table n rule) (rule n ∷ []) false k (let l = length-table n rule in omega arith) ∙ ih less
        by (inr is) ih = get_or_push (table n rule) (rule n) false k (let l = length-table n rule in omega arith) ∙ ap rule (sym is)

-- which of the three nodes of a cell a number stands for
abbrev pub kind_of : ℕ → Lays
kind_of zero = left_alone
kind_of (suc zero) = right_alone
kind_of (suc (suc r)) = together

-- the truth of a variable, where it is that of a node
abbrev pub node_rule : ℕ → Nodes → ℕ → Bool
node_rule columns v n = v (kind_of (n % 3)) ((n / 3) / columns) ((n / 3) % columns)

pub node_rule_at : (columns : ℕ) (v : Nodes) (k : Lays) (i j : ℕ) → j < columns → node_rule columns v (node columns k i j) ≡ v k i j
node_rule_at columns v left_alone i j h =
    let q = quotient_of (node columns left_alone i j) (i * columns + j) 0 3 (omega arith) (omega arith) in
    let r = remainder_of (node columns left_alone i j) (i * columns + j) 0 3 (omega arith) (omega arith) in
    ap (λ (m : ℕ). v (kind_of m) ((node columns left_alone i j / 3) / columns) ((node columns left_alone i j / 3) % columns)) (sym r)
    ∙ ap (λ (m : ℕ). v left_alone (m / columns) (m % columns)) (sym q)
    ∙ ap (λ (m : ℕ). v left_alone m ((i * columns + j) % columns)) (sym (quotient_of (i * columns + j) i j columns (grind arith) h))
    ∙ ap (λ (m : ℕ). v left_alone i m) (sym (remainder_of (i * columns + j) i j columns (grind arith) h))
node_rule_at columns v right_alone i j h =
    let q = quotient_of (node columns right_alone i j) (i * columns + j) 1 3 (omega arith) (omega arith) in
    let r = remainder_of (node columns right_alone i j) (i * columns + j) 1 3 (omega arith) (omega arith) in
    ap (λ (m : ℕ). v (kind_of m) ((node columns right_alone i j / 3) / columns) ((node columns right_alone i j / 3) % columns)) (sym r)
    ∙ ap (λ (m : ℕ). v right_alone (m / columns) (m % columns)) (sym q)
    ∙ ap (λ (m : ℕ). v right_alone m ((i * columns + j) % columns)) (sym (quotient_of (i * columns + j) i j columns (grind arith) h))
    ∙ ap (λ (m : ℕ). v right_alone i m) (sym (remainder_of (i * columns + j) i j columns (grind arith) h))
node_rule_at columns v together i j h =
    let q = quotient_of (node columns together i j) (i * columns + j) 2 3 (omega arith) (omega arith) in
    let r = remainder_of (node columns together i j) (i * columns + j) 2 3 (omega arith) (omega arith) in
    ap (λ (m : ℕ). v (kind_of m) ((node columns together i j / 3) / columns) ((node columns together i j / 3) % columns)) (sym r)
    ∙ ap (λ (m : ℕ). v together (m / columns) (m % columns)) (sym q)
    ∙ ap (λ (m : ℕ). v together m ((i * columns + j) % columns)) (sym (quotient_of (i * columns + j) i j columns (grind arith) h))
    ∙ ap (λ (m : ℕ). v together i m) (sym (remainder_of (i * columns + j) i j columns (grind arith) h))
