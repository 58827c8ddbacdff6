use Rattle.std.proofs.Common.{List, [], ◌∷◌, ap, map, sym, ◌∙◌}
use Rattle.css_model.specs.declared.sheet.Item.TheVariants.{Rule}
use Rattle.indexed_sheet.proofs.left_masks.masks_of_joined.Goals as goal
use Rattle.indexed_sheet.specs.declared.parts.Left.{Left}
use Rattle.indexed_sheet.specs.Putting.{items_in}
use Rattle.item_masks.specs.declared.mask.ItemMask.{ItemMask}
use Rattle.item_masks.specs.Masks.{item_mask}

pub returns-in-One : goal.returns-in-One
returns-in-One c =
    ap (λ (m : ItemMask). m ∷ []) (c.requires (Rule c.in-One._rule) (ap items_in c.in-One.is))
    ∙ ap (λ (left : Left). map item_mask (items_in left)) (sym c.in-One.is)
