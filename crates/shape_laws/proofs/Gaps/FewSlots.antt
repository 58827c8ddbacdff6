-- A shape has no more slots than compounds, so its numbers fit a width.
use Rattle.std.proofs.Common.{List, [], ap, arith, inl, inr, length, refl, suc, ℕ, ◌*◌, ◌++◌, ◌+◌, ◌<◌, ◌^◌, ◌∷◌, ◌≡◌, ◌≤◌}
use Rattle.std.proofs.Math.Nat.{mul-le-mul_right}
use Rattle.std.proofs.lemmas.List.{length-append}
use Rattle.std.proofs.lemmas.List.Elements.{Contains-append_left, Contains-append_right}
use Rattle.std.specs.List.{AllByRecursion}
use Rattle.css_model.specs.Documents.SelectorParts.{SelectorParts}
use Rattle.css_model.specs.declared.position.AnB.{AnB}
use Rattle.css_model.specs.declared.selector.Simple.{Simple}
use Rattle.nth_positions.specs.Gaps.{bounds_of, greatest_count, period_of, reduced, threshold_of}
use Rattle.slot_plan.specs.Counts.{CountsFit}
use Rattle.slot_plan.specs.ShapeParts.{ShapeParts}
use Rattle.slot_plan.specs.ValidShape.{SlotsOf, ValidShape}
use Rattle.slot_plan.specs.declared.shape.SlotStep.{SlotStep}
use Rattle.shape_laws.proofs.Gaps.Alike.{Reduces}
use Rattle.shape_laws.proofs.Lists.{enough}

-- so there are no more slots than compounds
pub slots_few : (x y : SelectorParts) (shape : ShapeParts) → ValidShape x y shape → suc (length shape.steps) ≤ length shape.left + length shape.right
slots_few x y shape v =
    let n = enough (suc (length shape.steps)) (shape.left ++ shape.right) (λ k h. elim (v.used k (omega arith)) [ inl a ↦ Contains-append_left shape.left shape.right k a | inr a ↦ Contains-append_right shape.left shape.right k a ]) in
    let l = length-append shape.left shape.right in
    omega arith

-- one slot for each compound
pub slots_length : (chain : List (List Simple)) (links : _) (steps : List SlotStep) (ps : List ℕ) → SlotsOf chain links steps ps → length ps ≡ length chain
slots_length chain links steps [] h = absurd h
slots_length chain links steps (p ∷ ps) h = h.2

-- the lists of counts have one for each slot
pub counts_length : (ss : List SlotStep) (bs aa : List ℕ) → CountsFit ss bs aa → (length bs ≡ suc (length ss)) × (length aa ≡ suc (length ss))
counts_length [] (b ∷ []) (a ∷ []) fit = (refl, refl)
counts_length [] [] aa fit = absurd fit
counts_length [] (b ∷ []) [] fit = absurd fit
counts_length [] (b ∷ []) (a ∷ a' ∷ aa) fit = absurd fit
counts_length [] (b ∷ b' ∷ bs) aa fit = absurd fit
counts_length (s ∷ ss) [] aa fit = absurd fit
counts_length (s ∷ ss) (b ∷ []) aa fit = absurd fit
counts_length (s ∷ ss) (b ∷ b' ∷ bs) [] fit = absurd fit
counts_length (s ∷ ss) (b ∷ b' ∷ bs) (a ∷ []) fit = absurd fit
counts_length (s ∷ ss) (b ∷ b' ∷ bs) (a ∷ a' ∷ aa) (step, fit) = let ih = counts_length ss (b' ∷ bs) (a' ∷ aa) fit in (ap suc ih.0, ap suc ih.1)

-- the width holds the numbers of a row of 24 elements
abbrev pub IsWide : List AnB → Type 0
IsWide parts = greatest_count (threshold_of parts) (period_of parts) < 2 ^ (bounds_of parts).width

-- numbers below so many times threshold + period are below 2^width
pub fit_width : (parts : List AnB) (many : ℕ) (counts : List ℕ) → many ≤ 24 → Reduces parts (threshold_of parts + period_of parts) (reduced (bounds_of parts)) → IsWide parts →
    AllByRecursion (λ n. n < many * (threshold_of parts + period_of parts)) counts → AllByRecursion (λ n. n < 2 ^ (bounds_of parts).width) counts
fit_width parts many [] h reduces wide _ = tt
fit_width parts many (n ∷ counts) h reduces wide (here, more) =
    let m : many * (threshold_of parts + period_of parts) ≤ 24 * (threshold_of parts + period_of parts) = mul-le-mul_right (threshold_of parts + period_of parts) h in
    let some = reduces.below 0 in
    (below wide m some, fit_width parts many counts h reduces wide more)
  where
    below : {g : ℕ} → greatest_count (threshold_of parts) (period_of parts) < g → many * (threshold_of parts + period_of parts) ≤ 24 * (threshold_of parts + period_of parts) → reduced (bounds_of parts) 0 < threshold_of parts + period_of parts → n < g
    below w m some = omega arith
