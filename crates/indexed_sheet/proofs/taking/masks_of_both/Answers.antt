use Rattle.std.proofs.Common.{subst, sym}
use Rattle.indexed_sheet.proofs.taking.masks_of_both.Goals as goal
use Rattle.indexed_sheet.specs.LeftMasks.{AreSharedWith, BothHaveSelectorsOf}
use Rattle.indexed_sheet.specs.Putting.{items_in}
use Rattle.item_masks.specs.declared.mask.ItemMask.{ItemMask}
use Rattle.step_laws.specs.declared.step.Step.{Step}

pub masks_of_shared-requires : goal.masks_of_shared-requires
masks_of_shared-requires c =
    subst (λ (m : ItemMask). AreSharedWith (items_in c.args.left.now.below) m c.args.lower) (sym c.union-both.ensures)
    (subst (λ (k : Step). BothHaveSelectorsOf k (items_in c.args.left.now.above) (items_in c.args.left.now.below) c.args.upper c.args.lower) c.in-Share.is c.requires).1
