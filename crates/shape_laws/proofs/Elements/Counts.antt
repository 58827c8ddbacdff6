-- The numbers of siblings in slots agree along the steps.
use Rattle.std.proofs.Common.{List, [], ap, arith, map, suc, ℕ, ◌+◌, ◌-◌, ◌∷◌, ◌≤◌}
use Rattle.std.specs.List.{AllByRecursion}
use Rattle.slot_plan.specs.Counts.{CountsFit, StepCounts}
use Rattle.slot_plan.specs.declared.shape.SlotStep.{SlotStep}
use Rattle.slot_plan.specs.declared.shape.SlotStep.TheVariants.{Further, NextTo, UpMore, UpOne}
use Rattle.shape_laws.proofs.Slots.Moves.{Moves, moves_step}
use Rattle.shape_laws.proofs.Slots.SlotList.{Slot, SlotsRise, step_to, steps_from}
use Rattle.shape_laws.proofs.Visits.Places.{Place}

-- how many siblings stand before a place, where b gives how many stand before the place of its row with the
-- least left
abbrev pub before_in : (ℕ → ℕ) → Place → ℕ
before_in b p = b p.up - p.left

-- and how many behind it
abbrev pub after_in : (ℕ → ℕ) → Place → ℕ
after_in a p = a p.up + p.left

-- the numbers at both ends of one step
moves_counts : (b a : ℕ → ℕ) (s : SlotStep) (p q : Place) → Moves s p q → q.left ≤ b q.up → StepCounts s (before_in b p) (before_in b q) (after_in a p) (after_in a q)
moves_counts b a NextTo p q (u, l) room = let e = ap b u in let f = ap a u in (omega arith, omega arith)
moves_counts b a Further p q (u, l) room = let e = ap b u in let f = ap a u in (q.left - suc p.left, omega arith, omega arith, omega arith)
moves_counts b a UpOne p q move room = tt
moves_counts b a UpMore p q move room = tt

-- the numbers in all slots, from those of each row
pub counts_fit : (b a : ℕ → ℕ) (c : Place) (ss : List Slot) → SlotsRise c ss → AllByRecursion (λ s. s.place.left ≤ b s.place.up) ss →
    CountsFit (steps_from c ss) (before_in b c ∷ map (λ s. before_in b s.place) ss) (after_in a c ∷ map (λ s. after_in a s.place) ss)
counts_fit b a c [] rise room = tt
counts_fit b a c (s ∷ ss) (ahead, rise) (here, room) = (moves_counts b a (step_to c s.place) c s.place (moves_step c s.place ahead) here, counts_fit b a s.place ss rise room)
