-- The slots of a shape with their places.
use Rattle.std.proofs.Common.{List, [], false, true, ◌∷◌, ◌≡◌, ◌⊎◌}
use Rattle.std.specs.Prelude.{Bool, List, [], if◌then◌else◌, suc, zero, ℕ, ◌==◌, ◌∷◌}
use Rattle.slot_plan.specs.declared.shape.SlotStep.{SlotStep}
use Rattle.slot_plan.specs.declared.shape.SlotStep.TheVariants.{Further, NextTo, UpMore, UpOne}
use Rattle.shape_laws.proofs.Visits.Order.{Ahead}
use Rattle.shape_laws.proofs.Visits.Places.{Place}

-- a slot: its place, and which of the two selectors have a compound in it
pub record Slot : Type 0 where
  pub place : Place
  pub in_left : Bool
  pub in_right : Bool

-- each slot comes after the one before
abbrev pub SlotsRise : Place → List Slot → Type 0
SlotsRise c [] = Unit {0}
SlotsRise c (s ∷ ss) = Ahead c s.place × SlotsRise s.place ss

-- the places of the slots in which one of the selectors has a compound
abbrev pub places_where : (Slot → Bool) → List Slot → List Place
places_where in_one [] = []
places_where in_one (s ∷ ss) = if in_one s then s.place ∷ places_where in_one ss else places_where in_one ss

-- the numbers of these slots, where the first is number k
abbrev pub numbers_where : (Slot → Bool) → ℕ → List Slot → List ℕ
numbers_where in_one k [] = []
numbers_where in_one k (s ∷ ss) = if in_one s then k ∷ numbers_where in_one (suc k) ss else numbers_where in_one (suc k) ss

-- the step from one place to a later one
abbrev pub step_to : Place → Place → SlotStep
step_to p q = if q.up == p.up then (if q.left == suc p.left then NextTo else Further) else (if q.up == suc p.up then UpOne else UpMore)

-- the steps between slots
abbrev pub steps_from : Place → List Slot → List SlotStep
steps_from c [] = []
steps_from c (s ∷ ss) = step_to c s.place ∷ steps_from s.place ss

-- the place of slot k, where p is that of slot 0, and the last place
abbrev pub nth_place : Place → List Slot → ℕ → Place
nth_place p ss zero = p
nth_place p [] (suc k) = p
nth_place p (s ∷ ss) (suc k) = nth_place s.place ss k

-- the last place
abbrev pub last_place : Place → List Slot → Place
last_place p [] = p
last_place p (s ∷ ss) = last_place s.place ss

-- a slot of the left selector alone, of the right one alone, and of both
abbrev pub left_only : Place → Slot
left_only p = record { place = p; in_left = true; in_right = false }

abbrev pub right_only : Place → Slot
right_only p = record { place = p; in_left = false; in_right = true }

abbrev pub in_both : Place → Slot
in_both p = record { place = p; in_left = true; in_right = true }

-- some selector has a compound in the slot
abbrev pub IsUsed : Slot → Type 0
IsUsed s = (s.in_left ≡ true) ⊎ (s.in_right ≡ true)

-- so it is for each slot
abbrev pub AreUsed : List Slot → Type 0
AreUsed [] = Unit {0}
AreUsed (s ∷ ss) = IsUsed s × AreUsed ss
