-- A run, one unit at a time, and the law that it is the longest row.
use Rattle.std.proofs.Common.{ℕ, zero, suc, ◌+◌, ◌<◌, ◌≤◌, ◌≡◌, List, [], ◌∷◌, length, drop, refl, sym, ap, ◌∙◌, arith, zero-add}
use Rattle.std.proofs.lemmas.List.{drop-drop, length-drop}
use Rattle.css_model.specs.Text.Runs.{run_from, run, IsRow, RunsAreLongest}

pub run_from-drop : (unit : List ℕ → ℕ) (left : ℕ) (text : List ℕ) → run_from unit left text ≡ left + run unit (drop left text)
run_from-drop unit zero text = sym (zero-add (run unit text))
run_from-drop unit (suc left) [] = omega arith
run_from-drop unit (suc left) (c ∷ cs) = omega (arith, run_from-drop unit left cs)

-- a run that begins with a unit of n bytes
pub run_unit : (unit : List ℕ → ℕ) (text : List ℕ) (n : ℕ) → 0 < length text → unit text ≡ n → 0 < n → run unit text ≡ n + run unit (drop n text)
run_unit unit [] n some is positive = absurd (omega arith)
run_unit unit (c ∷ cs) zero some is positive = absurd (omega arith)
run_unit unit (c ∷ cs) (suc m) some is positive = rw is (omega (arith, run_from-drop unit m cs))

-- a run where no unit begins
pub run_none : (unit : List ℕ → ℕ) (text : List ℕ) → unit text ≡ 0 → run unit text ≡ 0
run_none unit [] none = refl
run_none unit (c ∷ cs) none = rw none refl

pub run_more : (unit : List ℕ → ℕ) (text : List ℕ) (i n : ℕ) → i < length text → unit (drop i text) ≡ n → 0 < n
    → run unit (drop i text) ≡ n + run unit (drop (i + n) text)
run_more unit text i n inside is positive =
    run_unit unit (drop i text) n (omega (arith, length-drop i text)) is positive ∙ ap (λ (cs : List ℕ). n + run unit cs) (drop-drop n i text)

-- a run is a row of units
row_of : (unit : List ℕ → ℕ) (n : ℕ) (text : List ℕ) → length text ≤ n → (k : ℕ) × IsRow unit k text (run unit text)
row_of unit n [] short = (0, refl)
row_of unit zero (c ∷ cs) short = absurd (omega arith)
row_of unit (suc n) (c ∷ cs) short = which (unit (c ∷ cs)) refl (λ m. row_of unit n (drop m cs) (omega (arith, length-drop m cs)))
  where
    which : (m : ℕ) → unit (c ∷ cs) ≡ m → ((m : ℕ) → (k : ℕ) × IsRow unit k (drop m cs) (run unit (drop m cs))) → (k : ℕ) × IsRow unit k (c ∷ cs) (run unit (c ∷ cs))
    which zero is later = (0, run_none unit (c ∷ cs) is)
    which (suc m) is later =
        let rest = later m in
        (suc rest.0, rw is (omega arith, (run unit (drop m cs), omega (arith, run_from-drop unit m cs), rest.1)))

-- and no row is longer
row_below : (unit : List ℕ → ℕ) → unit [] ≡ 0 → (k : ℕ) (text : List ℕ) (n : ℕ) → IsRow unit k text n → n ≤ run unit text
row_below unit nil zero text n is = omega arith
row_below unit nil (suc k) [] n (positive, (m, is, row)) = absurd (omega arith)
row_below unit nil (suc k) (c ∷ cs) n (positive, (m, is, row)) =
    let rest : m ≤ run unit (drop (unit (c ∷ cs)) (c ∷ cs)) = row_below unit nil k (drop (unit (c ∷ cs)) (c ∷ cs)) m row in
    let whole = run_unit unit (c ∷ cs) (unit (c ∷ cs)) (omega arith) refl positive in
    omega (arith, rest, whole)

pub runs_are_longest : RunsAreLongest
runs_are_longest unit text nil = (row_of unit (length text) text (omega arith), λ k n row. row_below unit nil k text n row)
