-- The steps from one slot to the next, and what a combinator asks of those between the slots of its two
-- compounds (Selectors 3, section 8).
use Rattle.std.specs.Prelude.{◌≡◌, ℕ, zero, suc, Bool, true, false, List, [], ◌∷◌, ◌++◌}
use Rattle.std.specs.List.{slice_range}
use Rattle.css_model.specs.declared.selector.Combinator.{Combinator}
use Rattle.css_model.specs.declared.selector.Combinator.TheVariants.{Inside, Child, Next, Later}
use Rattle.slot_plan.specs.declared.shape.SlotStep.{SlotStep}
use Rattle.slot_plan.specs.declared.shape.SlotStep.TheVariants.{NextTo, Further, UpOne, UpMore}

-- the step leads to a sibling
abbrev pub IsSide : SlotStep → Type 0
IsSide NextTo = Unit {0}
IsSide Further = Unit {0}
IsSide UpOne = ⊥
IsSide UpMore = ⊥

-- each step does
abbrev pub AreSides : List SlotStep → Type 0
AreSides [] = Unit {0}
AreSides (s ∷ steps) = IsSide s × AreSides steps

-- the step leads to an ancestor
abbrev pub IsUp : SlotStep → Type 0
IsUp NextTo = ⊥
IsUp Further = ⊥
IsUp UpOne = Unit {0}
IsUp UpMore = Unit {0}

-- the same as a test
abbrev pub is_up : SlotStep → Bool
is_up NextTo = false
is_up Further = false
is_up UpOne = true
is_up UpMore = true

-- The steps from the compound at the right of a combinator to that at its left.
--     Inside    any, the last of which leads up (8.1)
--     Child     any number to siblings, then one to the parent (8.2)
--     Next      one to the sibling directly before (8.3.1)
--     Later     any number to siblings (8.3.2)
abbrev pub LinkFits : Combinator → List SlotStep → Type 0
LinkFits Inside steps = (before : List SlotStep) × (last : SlotStep) × (steps ≡ before ++ last ∷ []) × IsUp last
LinkFits Child steps = (sides : List SlotStep) × (steps ≡ sides ++ UpOne ∷ []) × AreSides sides
LinkFits Next steps = steps ≡ NextTo ∷ []
LinkFits Later steps = AreSides steps

-- The steps between the slots of neighbouring compounds are as the combinators ask, from the slot of one
-- compound on through those of the next ones. A combinator too many is not read.
abbrev pub LinksFit : List SlotStep → List Combinator → ℕ → List ℕ → Type 0
LinksFit steps links p [] = Unit {0}
LinksFit steps [] p (q ∷ slots) = ⊥
LinksFit steps (link ∷ links) p (q ∷ slots) = LinkFits link (slice_range steps p q) × LinksFit steps links q slots

-- whether a slot is reached by a step up, so that its element is a parent
abbrev pub is_parent : List SlotStep → ℕ → Bool
is_parent steps zero = false
is_parent [] (suc k) = false
is_parent (s ∷ steps) (suc zero) = is_up s
is_parent (s ∷ steps) (suc (suc k)) = is_parent steps (suc k)
