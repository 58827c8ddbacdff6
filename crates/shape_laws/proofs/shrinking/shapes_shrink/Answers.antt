use Rattle.slot_plan.specs.Parts.{pair_parts}
use Rattle.shape_laws.proofs.Gaps.SmallShapes.{small}
use Rattle.shape_laws.proofs.shrinking.shapes_shrink.Goals as goal

pub returns : goal.returns
returns c = λ left right shape. small left right shape
    (record {
      members = λ x in' gap k some. c.reduction_keeps_members.ensures.members (pair_parts left right) x gap k in' some;
      zeros = c.reduction_keeps_members.ensures.zero (pair_parts left right);
      below = c.reduction_keeps_members.ensures.below (pair_parts left right);
    })
    (c.reduction_keeps_members.ensures.width (pair_parts left right))
