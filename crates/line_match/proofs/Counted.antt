-- Elements of lines, counted line by line.
use Rattle.std.proofs.Common.{◌≡◌, ◌≢◌, ℕ, zero, suc, ◌+◌, ◌<◌, ◌≤◌, not, List, ◌∷◌, sym, refl, ap, ◌∙◌, arith}
use Rattle.std.specs.Prelude.{◌==◌, nat_lt, if◌then◌else◌}
use Rattle.std.proofs.lemmas.Bool.{le-ltb, lt-ltb, eq-eqb, ne_eqb}
use Rattle.css_model.specs.declared.example.RunLine.{RunLine}
use Rattle.css_model.specs.Documents.Document.{Element, Siblings, none, first}
use Rattle.css_model.specs.Documents.Features.{element_of}
use Rattle.css_model.specs.Documents.Matching.{count_siblings, is_none}
use Rattle.css_model.specs.Documents.RunDocuments.{repeated, siblings_of}
use Rattle.cascade_laws.specs.Eval.Climbing.{count_at, has_one_at}

run_counted : (n : ℕ) (e : Element) (children later : Siblings) → count_siblings (repeated n e children later) ≡ n + count_siblings later
run_counted zero e children later = omega arith
run_counted (suc n) e children later = ap suc (run_counted n e children later) ∙ omega arith

pub count_here : (l : RunLine) (lines : List RunLine) (d : ℕ) → l.depth ≡ d → count_at (l ∷ lines) d ≡ l.count + count_at lines d
count_here l lines d e =
    ap (λ b. count_siblings (if b then repeated l.count (element_of l.element) (siblings_of lines (suc d)) (siblings_of lines d) else (if nat_lt l.depth d then none else siblings_of lines d))) (eq-eqb l.depth d e)
    ∙ run_counted l.count (element_of l.element) (siblings_of lines (suc d)) (siblings_of lines d)

pub count_ended : (l : RunLine) (lines : List RunLine) (d : ℕ) → l.depth < d → count_at (l ∷ lines) d ≡ 0
count_ended l lines d h =
    ap (λ b. count_siblings (if b then repeated l.count (element_of l.element) (siblings_of lines (suc d)) (siblings_of lines d) else (if nat_lt l.depth d then none else siblings_of lines d))) (ne_eqb l.depth d (omega arith))
    ∙ ap (λ b. count_siblings (if b then none else siblings_of lines d)) (lt-ltb l.depth d h)

pub count_deeper : (l : RunLine) (lines : List RunLine) (d : ℕ) → l.depth ≢ d → d ≤ l.depth → count_at (l ∷ lines) d ≡ count_at lines d
count_deeper l lines d ne h =
    ap (λ b. count_siblings (if b then repeated l.count (element_of l.element) (siblings_of lines (suc d)) (siblings_of lines d) else (if nat_lt l.depth d then none else siblings_of lines d))) (ne_eqb l.depth d ne)
    ∙ ap (λ b. count_siblings (if b then none else siblings_of lines d)) (le-ltb l.depth d h)

-- the same in one law
pub counted : (l : RunLine) (lines : List RunLine) (d : ℕ) →
    ((l.depth ≡ d → count_at (l ∷ lines) d ≡ l.count + count_at lines d) × (l.depth < d → count_at (l ∷ lines) d ≡ 0)) × (l.depth ≢ d → d ≤ l.depth → count_at (l ∷ lines) d ≡ count_at lines d)
counted l lines d = ((count_here l lines d, count_ended l lines d), count_deeper l lines d)

some_counted : (s : Siblings) → not (is_none s) ≡ not (count_siblings s == 0)
some_counted none = refl
some_counted (first e children later) = sym (ap not (ne_eqb (suc (count_siblings later)) 0 (some (count_siblings later))))
  where
    some : (n : ℕ) → suc n ≢ 0
    some n h = omega arith

pub has_counted : (lines : List RunLine) (d : ℕ) → has_one_at lines d ≡ not (count_at lines d == 0)
has_counted lines d = some_counted (siblings_of lines d)
