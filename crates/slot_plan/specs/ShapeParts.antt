-- What a contract sees of a shape.
use Rattle.std.specs.Prelude.{ℕ, Bool, List}
use Rattle.slot_plan.specs.declared.shape.SlotStep.{SlotStep}

-- its steps, the slots of the compounds of both selectors, the numbers of siblings before and behind each
-- slot, whether the last slot is that of the root, and whether the root counts as a child
pub record ShapeParts : Type 0 where
  pub steps : List SlotStep
  pub left : List ℕ
  pub right : List ℕ
  pub before : List ℕ
  pub after : List ℕ
  pub top_is_root : Bool
  pub root_is_child : Bool
