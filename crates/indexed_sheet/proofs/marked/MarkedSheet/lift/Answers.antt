use Rattle.std.proofs.Common.{◌≡◌, List, length, map, ap, sym, slice_set, ◌∙◌}
use Rattle.std.proofs.lemmas.List.{length-set, map-set}
use Rattle.css_model.specs.declared.sheet.Item.{Item}
use Rattle.indexed_sheet.specs.Putting.{placeholder}
use Rattle.indexed_sheet.proofs.marked.MarkedSheet.lift.Goals as goal
use Rattle.item_masks.specs.declared.mask.ItemMask.{ItemMask}
use Rattle.item_masks.specs.Masks.{item_mask}

pub invariant_of-indexed : goal.invariant_of-indexed
invariant_of-indexed c =
    let same : length c.self.inside.marks.list ≡ length c.self.inside.items = c.self.invariant.0 in
    let masked : c.self.inside.masks ≡ map item_mask c.self.inside.items = c.self.invariant.1 in (
      same ∙ sym (length-set c.self.inside.items c.args.number placeholder) ∙ sym (ap (λ (items : List Item). length items) c.lift_rule-rule.ensures.items),
      c.lift_mask.ensures
          ∙ ap (λ (masks : List ItemMask). slice_set masks c.args.number (item_mask placeholder)) masked
          ∙ sym (map-set item_mask c.self.inside.items c.args.number placeholder)
          ∙ sym (ap (λ (items : List Item). map item_mask items) c.lift_rule-rule.ensures.items),
    )
