use Rattle.std.proofs.Common.{◌≡◌, List, length, map, ap, sym, subst, ◌∙◌}
use Rattle.css_model.specs.declared.sheet.Item.{Item}
use Rattle.indexed_sheet.specs.declared.marks.Mark.{Mark}
use Rattle.indexed_sheet.specs.IndexedParts.{IndexedParts}
use Rattle.indexed_sheet.specs.Marking.{HasOrderKeyBefore}
use Rattle.indexed_sheet.specs.Putting.{items_in, put_at}
use Rattle.indexed_sheet.proofs.Puts.{put_length, put_map}
use Rattle.indexed_sheet.proofs.marked.MarkedSheet.put.Goals as goal
use Rattle.item_masks.specs.declared.mask.ItemMask.{ItemMask}
use Rattle.item_masks.specs.Masks.{item_mask}

pub put-requires-clause-room : goal.put-requires-clause-room
put-requires-clause-room c = λ more.
    ((c.requires.room more).0, subst (λ (marks : List Mark). HasOrderKeyBefore marks c.args.number) (sym (ap (λ (b : IndexedParts). b.marks) c.self.view_is)) (c.requires.room more).1)

pub invariant_of-result : goal.invariant_of-result
invariant_of-result c =
    let same : length c.self.inside.marks.list ≡ length c.self.inside.items = c.self.invariant.0 in
    let masked : c.self.inside.masks ≡ map item_mask c.self.inside.items = c.self.invariant.1 in (
      ap (λ (marks : List Mark). length marks) c.in_ok-marks.ensures.marks.is
          ∙ put_length c.args.number (items_in c.args.left) c.in_ok-marks.ensures.marks.made c.self.inside.items c.self.inside.marks.list c.in_ok-marks.ensures.marks.count_is same
          ∙ sym (ap (λ (items : List Item). length items) c.in_ok-items.ensures),
      c.in_ok-masks.ensures
          ∙ ap (λ (left : List ItemMask). put_at c.args.number left c.self.inside.masks) c.requires.masks
          ∙ ap (λ (masks : List ItemMask). put_at c.args.number (map item_mask (items_in c.args.left)) masks) masked
          ∙ put_map item_mask c.args.number (items_in c.args.left) c.self.inside.items
          ∙ sym (ap (λ (items : List Item). map item_mask items) c.in_ok-items.ensures),
    )
