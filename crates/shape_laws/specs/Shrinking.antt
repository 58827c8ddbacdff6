-- Shapes with few siblings between their slots and beside them.
use Rattle.std.specs.Prelude.{ℕ, suc, ◌+◌, ◌^◌, ◌<◌, ◌≤◌, List, [], ◌∷◌, length, slice_index}
use Rattle.std.specs.List.{All}
use Rattle.css_model.specs.Documents.SelectorParts.{SelectorParts}
use Rattle.css_model.specs.Sheets.Limits.{max_compounds}
use Rattle.nth_positions.specs.declared.gap.Bounds.{Bounds}
use Rattle.nth_positions.specs.Gaps.{bounds_of}
use Rattle.slot_plan.specs.declared.shape.SlotStep.{SlotStep}
use Rattle.slot_plan.specs.declared.shape.SlotStep.TheVariants.{NextTo, Further, UpOne, UpMore}
use Rattle.slot_plan.specs.Parts.{pair_parts}
use Rattle.slot_plan.specs.ShapeParts.{ShapeParts}
use Rattle.slot_plan.specs.ValidShape.{ValidShape}

-- The gaps at a step are below a bound, where b siblings stand before its first slot, and b' before and a'
-- behind its second one: the gap between two siblings, or those at the left end of the row that ends here and
-- at the right end of the row that begins here.
abbrev pub StepGap : ℕ → SlotStep → ℕ → ℕ → ℕ → Type 0
StepGap bound NextTo b b' a' = Unit {0}
StepGap bound Further b b' a' = b < b' + suc bound
StepGap bound UpOne b b' a' = (b < bound) × (a' < bound)
StepGap bound UpMore b b' a' = (b < bound) × (a' < bound)

-- those at all steps, and at the left end of the last row
abbrev pub GapsBelow : ℕ → List SlotStep → List ℕ → List ℕ → Type 0
GapsBelow bound [] (b ∷ []) (a ∷ []) = b < bound
GapsBelow bound (s ∷ steps) (b ∷ b' ∷ before) (a ∷ a' ∷ after) = StepGap bound s b b' a' × GapsBelow bound steps (b' ∷ before) (a' ∷ after)
GapsBelow bound _ _ _ = ⊥

-- All gaps of a shape are below threshold + period, and the width holds its numbers of siblings. Besides those
-- at its steps there is the gap at the right end of the first row.
pub record IsSmall (bounds : Bounds) (shape : ShapeParts) : Type 0 where
  pub gaps : GapsBelow (bounds.threshold + bounds.period) shape.steps shape.before shape.after
  pub right_gap : slice_index shape.after 0 < bounds.threshold + bounds.period
  pub before : All (λ n. n < 2 ^ bounds.width) shape.before
  pub after : All (λ n. n < 2 ^ bounds.width) shape.after

-- Where a shape fits two selectors, a small one does. The bounds are those of all their tests of positions.
abbrev pub ShapesShrink : Type 0
ShapesShrink =
    (x y : SelectorParts) (shape : ShapeParts) → length x.chain ≤ max_compounds → length y.chain ≤ max_compounds → ValidShape x y shape →
    (small : ShapeParts) × ValidShape x y small × IsSmall (bounds_of (pair_parts x y)) small
