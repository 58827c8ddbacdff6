-- How the selector of terms goes on behind a step.
use Rattle.std.proofs.Common.{◌≡◌, ◌<◌, ◌-◌, ℕ, zero, suc, List, ◌∷◌, Ok, sym, ap, ◌∙◌, arith}
use Rattle.css_model.specs.declared.token.Gap.{Gap}
use Rattle.css_model.specs.Lists.{less_one}
use Rattle.css_model.specs.Selectors.Compounds.{SoFar, step}
use Rattle.css_model.specs.Selectors.Reading.{left_after, read_from, state_after, unless_refused}
use Rattle.css_model.specs.Selectors.Refusals.{Read}
use Rattle.css_model.specs.Selectors.Terms.{Term}

-- a term that belongs to what was read is passed by
pub skipped : (s : SoFar) (g : Gap) (left less : ℕ) (x : Term) (xs : List Term) → 0 < left → less ≡ left - 1
    → read_from s x.gap less xs ≡ read_from s g left (x ∷ xs)
skipped s g zero less x xs some is = absurd (omega arith)
skipped s g (suc left) less x xs some is = ap (λ (n : ℕ). read_from s x.gap n xs) (let same : less ≡ left = omega arith in same)

one_less : (n : ℕ) → n - 1 ≡ less_one n
one_less zero = omega arith
one_less (suc n) = omega arith

-- a step that is not refused leaves a state and takes so many terms
pub stepped : (old new : SoFar) (g : Gap) (n left : ℕ) (x : Term) (xs : List Term) → step old old.pseudo g x xs ≡ Ok (new, n) → left ≡ n - 1
    → read_from new x.gap left xs ≡ read_from old g 0 (x ∷ xs)
stepped old new g n left x xs reads is =
    ap (λ (m : ℕ). read_from new x.gap m xs) (is ∙ one_less n)
    ∙ sym (ap (λ (r : Read SoFar). unless_refused r (read_from (state_after old r) x.gap (left_after r) xs)) reads)

pub read_along : (old new : SoFar) (g h : Gap) (m n : ℕ) (xs : List Term) → new ≡ old → h ≡ g → n ≡ m → read_from new h n xs ≡ read_from old g m xs
read_along old new g h m n xs states gaps lefts =
    ap (λ (s : SoFar). read_from s h n xs) states ∙ ap (λ (x : Gap). read_from old x n xs) gaps ∙ ap (λ (k : ℕ). read_from old g k xs) lefts
