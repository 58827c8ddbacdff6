-- How many siblings stand before and behind the element in each slot.
use Rattle.std.specs.Prelude.{◌≡◌, ℕ, suc, ◌+◌, ◌≤◌, List, [], ◌∷◌}
use Rattle.slot_plan.specs.declared.shape.SlotStep.{SlotStep}
use Rattle.slot_plan.specs.declared.shape.SlotStep.TheVariants.{NextTo, Further, UpOne, UpMore}

-- The numbers at both ends of a step: b before and a behind where it begins, b' and a' where it leads.
-- Between two siblings that are no neighbours there is a gap of one or more.
abbrev pub StepCounts : SlotStep → ℕ → ℕ → ℕ → ℕ → Type 0
StepCounts NextTo b b' a a' = (b ≡ suc b') × (a' ≡ suc a)
StepCounts Further b b' a a' = (gap : ℕ) × (1 ≤ gap) × (b ≡ b' + suc gap) × (a' ≡ a + suc gap)
StepCounts UpOne b b' a a' = Unit {0}
StepCounts UpMore b b' a a' = Unit {0}

-- the numbers before and those behind, one of each for each slot, agree along all steps
abbrev pub CountsFit : List SlotStep → List ℕ → List ℕ → Type 0
CountsFit [] (b ∷ []) (a ∷ []) = Unit {0}
CountsFit (s ∷ steps) (b ∷ b' ∷ before) (a ∷ a' ∷ after) = StepCounts s b b' a a' × CountsFit steps (b' ∷ before) (a' ∷ after)
CountsFit _ _ _ = ⊥
