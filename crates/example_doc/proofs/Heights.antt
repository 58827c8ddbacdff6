-- The depths of slots.
use Rattle.std.proofs.Common.{Bool, List, [], arith, false, length, true, ◌*◌, ◌<◌, ◌^◌, ◌∷◌, ◌≤◌}
use Rattle.example_doc.specs.Lines.{depth_from, height, rise, top_depth}
use Rattle.slot_plan.specs.declared.shape.SlotStep.{SlotStep}
use Rattle.slot_plan.specs.declared.shape.SlotStep.TheVariants.{Further, NextTo, UpMore, UpOne}

rise_small : (s : SlotStep) → rise s ≤ 2
rise_small NextTo = omega arith
rise_small Further = omega arith
rise_small UpOne = omega arith
rise_small UpMore = omega arith

height_small : (steps : List SlotStep) → height steps ≤ 2 * length steps
height_small [] = omega arith
height_small (s ∷ steps) = let r = rise_small s in let h = height_small steps in omega arith

top_small : (root : Bool) → top_depth root ≤ 1
top_small true = omega arith
top_small false = omega arith

-- few steps lead to no great depth
pub depth_small : (root : Bool) (steps : List SlotStep) → length steps < 2 ^ 16 → depth_from root steps < 2 ^ 20
depth_small root steps few = let h = height_small steps in let t = top_small root in omega arith

-- a slot stands at least as deep as the steps from it on lead up
pub height_below : (root : Bool) (steps : List SlotStep) → height steps ≤ depth_from root steps
height_below root steps = omega arith
