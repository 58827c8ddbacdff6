-- One line on the way down.
use Rattle.std.proofs.Common.{◌≡◌, ◌≢◌, ℕ, suc, ◌+◌, Bool, true, false, List, ◌∷◌, map, sym, ap, ◌∙◌, add-one}
use Rattle.std.specs.Prelude.{if◌then◌else◌}
use Rattle.std.proofs.lemmas.Bool.{eq-eqb, ne_eqb}
use Rattle.css_model.specs.declared.example.RunLine.{RunLine}
use Rattle.css_model.specs.declared.selector.Combinator.{Combinator}
use Rattle.css_model.specs.declared.selector.Simple.{Simple}
use Rattle.css_model.specs.Documents.RunDocuments.{is_below}
use Rattle.cascade_laws.specs.declared.reaching.Reached.{Reached}
use Rattle.cascade_laws.specs.declared.reaching.Role.TheVariants.{Above, Beside, Apart}
use Rattle.cascade_laws.specs.Eval.Climbing.{climbed, count_at, has_one_at, standing_of, standings_of}
use Rattle.cascade_laws.specs.Eval.Reaching.{from_child, is_reached, located, passed}
use Rattle.line_match.specs.Runs.{run_tests}

pub climbed_marked : (chain : List (List Simple)) (links : List Combinator) (l : RunLine) (lines : List RunLine) (d before : ℕ) (rs : List Reached) →
    climbed chain links (l ∷ lines) (standings_of (l ∷ lines) d 0) before rs
    ≡ is_reached (located (run_tests chain l.element (has_one_at lines (d + 1)) before (count_at lines d)) links rs)
climbed_marked chain links l lines d before rs =
    ap (λ (m : ℕ). is_reached (located (run_tests chain l.element (has_one_at lines m) before (count_at lines d)) links rs)) (sym (add-one d))

-- what the next line says, by whether it is of the depth and whether the marked one stands below it
abbrev by_depth : List (List Simple) → List Combinator → RunLine → List RunLine → (d n before : ℕ) → List Reached → (b c : Bool) → Bool
by_depth chain links l lines d n before rs b c =
    climbed chain links (l ∷ lines)
    (if b then (if c then standing_of Above lines d ∷ standings_of lines (suc d) n else standing_of Beside lines d ∷ standings_of lines d n) else standing_of Apart lines d ∷ standings_of lines d n)
    before rs

pub climbed_above : (chain : List (List Simple)) (links : List Combinator) (l : RunLine) (lines : List RunLine) (d m n before : ℕ) (rs : List Reached) →
    m ≡ suc n → l.depth ≡ d → is_below d lines n ≡ true →
    climbed chain links (l ∷ lines) (standings_of (l ∷ lines) d m) before rs
    ≡ climbed chain links lines (standings_of lines (d + 1) n) 0 (map from_child (located (run_tests chain l.element (has_one_at lines (d + 1)) before (count_at lines d)) links rs))
climbed_above chain links l lines d m n before rs more here below =
    ap (λ (k : ℕ). climbed chain links (l ∷ lines) (standings_of (l ∷ lines) d k) before rs) more
    ∙ ap (λ b. by_depth chain links l lines d n before rs b (is_below d lines n)) (eq-eqb l.depth d here)
    ∙ ap (λ b. by_depth chain links l lines d n before rs true b) below
    ∙ ap (λ (k : ℕ). climbed chain links lines (standings_of lines k n) 0 (map from_child (located (run_tests chain l.element (has_one_at lines k) before (count_at lines d)) links rs))) (sym (add-one d))

pub climbed_beside : (chain : List (List Simple)) (links : List Combinator) (l : RunLine) (lines : List RunLine) (d m n before : ℕ) (rs : List Reached) →
    m ≡ suc n → l.depth ≡ d → is_below d lines n ≡ false →
    climbed chain links (l ∷ lines) (standings_of (l ∷ lines) d m) before rs
    ≡ climbed chain links lines (standings_of lines d n) (before + l.count) (passed (run_tests chain l.element (has_one_at lines (d + 1))) links l.count before (count_at lines d) rs)
climbed_beside chain links l lines d m n before rs more here below =
    ap (λ (k : ℕ). climbed chain links (l ∷ lines) (standings_of (l ∷ lines) d k) before rs) more
    ∙ ap (λ b. by_depth chain links l lines d n before rs b (is_below d lines n)) (eq-eqb l.depth d here)
    ∙ ap (λ b. by_depth chain links l lines d n before rs true b) below
    ∙ ap (λ (k : ℕ). climbed chain links lines (standings_of lines d n) (before + l.count) (passed (run_tests chain l.element (has_one_at lines k)) links l.count before (count_at lines d) rs)) (sym (add-one d))

pub climbed_apart : (chain : List (List Simple)) (links : List Combinator) (l : RunLine) (lines : List RunLine) (d m n before : ℕ) (rs : List Reached) →
    m ≡ suc n → l.depth ≢ d →
    climbed chain links (l ∷ lines) (standings_of (l ∷ lines) d m) before rs ≡ climbed chain links lines (standings_of lines d n) before rs
climbed_apart chain links l lines d m n before rs more apart =
    ap (λ (k : ℕ). climbed chain links (l ∷ lines) (standings_of (l ∷ lines) d k) before rs) more
    ∙ ap (λ b. by_depth chain links l lines d n before rs b (is_below d lines n)) (ne_eqb l.depth d apart)
