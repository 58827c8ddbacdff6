use Rattle.std.proofs.Common.{List, ap, sym, ◌∙◌}
use Rattle.std.specs.List.{insert}
use Rattle.item_masks.specs.declared.mask.ItemMask.{ItemMask}
use Rattle.indexed_sheet.specs.declared.left_masks.LeftMasks.{LeftMasks}
use Rattle.indexed_sheet.specs.LeftMasks.{masks_in}
use Rattle.indexed_sheet.specs.Putting.{put_at}
use Rattle.indexed_sheet.proofs.Puts.{put_none, put_one, put_two}
use Rattle.indexed_sheet.proofs.putting.put_masks.Goals as goal

pub returns-in-Nothing : goal.returns-in-Nothing
returns-in-Nothing c =
    c.remove.ensures.list ∙ put_none c.args.number c.args.masks
    ∙ ap (λ (left : LeftMasks). put_at c.args.number (masks_in left) c.args.masks) (sym c.in-Nothing.is)

pub returns-in-One : goal.returns-in-One
returns-in-One c = c.set.ensures.list ∙ put_one c.args.number c.in-One.mask c.args.masks ∙ ap (λ (left : LeftMasks). put_at c.args.number (masks_in left) c.args.masks) (sym c.in-One.is)

pub returns-in_ok-insert-in-Two : goal.returns-in_ok-insert-in-Two
returns-in_ok-insert-in-Two c =
    c.in_ok-insert-in-Two.ensures.list
    ∙ ap (λ (l : List ItemMask). insert l c.args.number c.in-Two.above) c.set-in-Two.ensures.list ∙ put_two c.args.number c.in-Two.below c.in-Two.above c.args.masks c.requires
    ∙ ap (λ (left : LeftMasks). put_at c.args.number (masks_in left) c.args.masks) (sym c.in-Two.is)
