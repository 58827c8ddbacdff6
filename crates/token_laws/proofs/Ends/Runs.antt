-- A run of units that ends before one rest of a text, or within what stands before it, is the same before another.
use Rattle.std.proofs.Common.{ℕ, zero, suc, ◌+◌, ◌<◌, ◌≤◌, ◌≡◌, List, [], ◌∷◌, ◌++◌, length, drop, refl, sym, ap, ◌∙◌, arith}
use Rattle.std.proofs.lemmas.List.{drop-append-le, length-drop}
use Rattle.css_model.specs.Text.Runs.{run}
use Rattle.css_tokens.proofs.ForCallers.{run_unit, run_none}

-- what fits into the text before a rest, and where none begins
pub record Keeps (unit : List ℕ → ℕ) (old new : List ℕ) : Type 0 where
  pub same : (v : List ℕ) → 0 < unit (v ++ old) → unit (v ++ old) ≤ length v → unit (v ++ new) ≡ unit (v ++ old)
  pub stops : unit old ≡ 0 → unit new ≡ 0

-- a unit is not longer than the run that it begins
pub unit_le_run : (unit : List ℕ → ℕ) (text : List ℕ) → unit [] ≡ 0 → unit text ≤ run unit text
unit_le_run unit [] nil = omega (arith, nil)
unit_le_run unit (c ∷ cs) nil = which (unit (c ∷ cs)) refl
  where
    which : (m : ℕ) → unit (c ∷ cs) ≡ m → m ≤ run unit (c ∷ cs)
    which zero is = omega arith
    which (suc m) is = omega (arith, run_unit unit (c ∷ cs) (suc m) (omega arith) is (omega arith))

-- a run that has a byte begins with a unit
pub run_begins : (unit : List ℕ → ℕ) (text : List ℕ) → 0 < run unit text → 0 < unit text
run_begins unit text positive = which (unit text) refl
  where
    which : (m : ℕ) → unit text ≡ m → 0 < m
    which zero is = absurd (omega (arith, positive, run_none unit text is))
    which (suc m) is = omega arith

keeps_from : (unit : List ℕ → ℕ) (old new : List ℕ) → unit [] ≡ 0 → Keeps unit old new
    → (n : ℕ) (v : List ℕ) → length v ≤ n → run unit (v ++ old) ≡ length v → run unit (v ++ new) ≡ length v
keeps_from unit old new nil h n [] short is = run_none unit new (h.stops (omega (arith, unit_le_run unit old nil, is)))
keeps_from unit old new nil h zero (c ∷ cs) short is = absurd (omega arith)
keeps_from unit old new nil h (suc n) (c ∷ cs) short is =
    let v = c ∷ cs in
    let m = unit (v ++ old) in
    let some : 0 < m = run_begins unit (v ++ old) (omega (arith, is)) in
    let step = run_unit unit (v ++ old) m (omega arith) refl some in
    let fits : m ≤ length v = omega (arith, step, is) in
    let same : unit (v ++ new) ≡ m = h.same v some fits in
    let again = run_unit unit (v ++ new) m (omega arith) same some in
    let before = ap (λ (cs : List ℕ). run unit cs) (drop-append-le m v old fits) in
    let behind = ap (λ (cs : List ℕ). run unit cs) (drop-append-le m v new fits) in
    let size = length-drop m v in
    let later = keeps_from unit old new nil h n (drop m v) (omega (arith, some, size, short)) (omega (arith, step, is, before, size)) in
    omega (arith, again, later, behind, size, fits)

pub run_keeps : (unit : List ℕ → ℕ) (old new : List ℕ) → unit [] ≡ 0 → Keeps unit old new
    → (v : List ℕ) → run unit (v ++ old) ≡ length v → run unit (v ++ new) ≡ length v
run_keeps unit old new nil h v is = keeps_from unit old new nil h (length v) v (omega arith) is

-- a unit, or none, that fits into the text before a rest
pub record Fits (unit : List ℕ → ℕ) (old new : List ℕ) : Type 0 where
  pub same : (v : List ℕ) → unit (v ++ old) ≤ length v → unit (v ++ new) ≡ unit (v ++ old)

fits_from : (unit : List ℕ → ℕ) (old new : List ℕ) → unit [] ≡ 0 → Fits unit old new
    → (n : ℕ) (v : List ℕ) → length v ≤ n → run unit (v ++ old) ≤ length v → run unit (v ++ new) ≡ run unit (v ++ old)
fits_from unit old new nil h n [] short fits =
    let none : unit old ≡ 0 = omega (arith, unit_le_run unit old nil, fits) in
    let same : unit new ≡ unit old = h.same [] (omega (arith, none)) in
    run_none unit new (same ∙ none) ∙ sym (run_none unit old none)
fits_from unit old new nil h zero (c ∷ cs) short fits = absurd (omega arith)
fits_from unit old new nil h (suc n) (c ∷ cs) short fits =
    which (unit (c ∷ cs ++ old)) refl (λ (v : List ℕ) (short : length v ≤ n) (fits : run unit (v ++ old) ≤ length v). fits_from unit old new nil h n v short fits)
  where
    which : (m : ℕ) → unit (c ∷ cs ++ old) ≡ m → ((v : List ℕ) → length v ≤ n → run unit (v ++ old) ≤ length v → run unit (v ++ new) ≡ run unit (v ++ old))
        → run unit (c ∷ cs ++ new) ≡ run unit (c ∷ cs ++ old)
    which zero is later =
        let same = h.same (c ∷ cs) (omega (arith, is)) in
        run_none unit (c ∷ cs ++ new) (same ∙ is) ∙ sym (run_none unit (c ∷ cs ++ old) is)
    which (suc k) is later =
        let v = c ∷ cs in
        let m = suc k in
        let step = run_unit unit (v ++ old) m (omega arith) is (omega arith) in
        let inside : m ≤ length v = omega (arith, step, fits) in
        let same : unit (v ++ new) ≡ m = h.same v (omega (arith, is, inside)) ∙ is in
        let again = run_unit unit (v ++ new) m (omega arith) same (omega arith) in
        let before = ap (λ (cs : List ℕ). run unit cs) (drop-append-le m v old inside) in
        let behind = ap (λ (cs : List ℕ). run unit cs) (drop-append-le m v new inside) in
        let size = length-drop m v in
        let rest = later (drop m v) (omega (arith, size, short)) (omega (arith, step, fits, before, size)) in
        omega (arith, step, again, rest, before, behind)

pub run_fits : (unit : List ℕ → ℕ) (old new : List ℕ) → unit [] ≡ 0 → Fits unit old new
    → (v : List ℕ) → run unit (v ++ old) ≤ length v → run unit (v ++ new) ≡ run unit (v ++ old)
run_fits unit old new nil h v fits = fits_from unit old new nil h (length v) v (omega arith) fits

-- one length and then another
pub seq_same : (f g : List ℕ → ℕ) (old new v : List ℕ) → (f (v ++ old) ≤ length v → f (v ++ new) ≡ f (v ++ old))
    → (f (v ++ old) ≤ length v → g (drop (f (v ++ old)) v ++ old) ≤ length (drop (f (v ++ old)) v) → g (drop (f (v ++ old)) v ++ new) ≡ g (drop (f (v ++ old)) v ++ old))
    → f (v ++ old) + g (drop (f (v ++ old)) (v ++ old)) ≤ length v
    → f (v ++ new) + g (drop (f (v ++ new)) (v ++ new)) ≡ f (v ++ old) + g (drop (f (v ++ old)) (v ++ old))
seq_same f g old new v p q both =
    let n = f (v ++ old) in
    let fits : n ≤ length v = omega (arith, both) in
    let first : f (v ++ new) ≡ n = p fits in
    let before = ap (λ (cs : List ℕ). g cs) (drop-append-le n v old fits) in
    let behind = ap (λ (cs : List ℕ). g cs) (drop-append-le n v new fits) in
    let rest : g (drop n v ++ old) ≤ length (drop n v) = omega (arith, both, length-drop n v, before) in
    let second : g (drop n v ++ new) ≡ g (drop n v ++ old) = q fits rest in
    let at : f (v ++ new) + g (drop (f (v ++ new)) (v ++ new)) ≡ n + g (drop n (v ++ new)) = ap (λ (m : ℕ). m + g (drop m (v ++ new))) first in
    omega (arith, at, second, before, behind)
