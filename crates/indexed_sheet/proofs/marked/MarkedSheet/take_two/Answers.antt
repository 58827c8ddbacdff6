use Rattle.std.proofs.Common.{◌≡◌, ◌<◌, ◌≤◌, ◌+◌, ℕ, List, [], ◌∷◌, length, Some, ap, sym, subst, ◌∙◌, arith}
use Rattle.std.specs.Prelude.{slice_get}
use Rattle.std.proofs.lemmas.List.{length-set}
use Rattle.std.proofs.lemmas.Option.{slice_get_within}
use Rattle.css_model.specs.declared.sheet.Item.{Item}
use Rattle.css_model.specs.declared.sheet.Item.TheVariants.{Rule}
use Rattle.css_model.specs.Sheets.RuleParts.{RuleParts}
use Rattle.step_laws.specs.Steps.{first_item, last_item}
use Rattle.step_savings.proofs.ForCallers.{first_rule, last_rule}
use Rattle.indexed_sheet.specs.declared.marks.Mark.{Mark}
use Rattle.indexed_sheet.specs.Marking.{HasOrderKeyBefore}
use Rattle.indexed_sheet.specs.Putting.{items_in, placeholder}
use Rattle.indexed_sheet.proofs.EditPuts.{change}
use Rattle.indexed_sheet.proofs.LeftMasks.{masks_known}
use Rattle.indexed_sheet.proofs.Puts.{put_within}
use Rattle.indexed_sheet.proofs.Taken.{two_items, two_order_keys, two_marks, in_order, get_other, one_made, few_above, few_below, order_key_for}
use Rattle.indexed_sheet.proofs.marked.MarkedSheet.take_two.Goals as goal

pub mask-lower_mask-requires : goal.mask-lower_mask-requires
mask-lower_mask-requires c =
    let u : (r : RuleParts) × (slice_get c.args.self.items (last_item c.args.step.now) ≡ Some (Rule r)) = last_rule c.args.self.items c.args.step.now c.requires.is_step in
    slice_get_within c.args.self.items c.args.lower (Rule u.0) (subst (λ (i : ℕ). slice_get c.args.self.items i ≡ Some (Rule u.0)) (sym c.requires.last) u.1)

pub lift-lifted-requires : goal.lift-lifted-requires
lift-lifted-requires c =
    let u : (r : RuleParts) × (slice_get c.args.self.items (first_item c.args.step.now) ≡ Some (Rule r)) = first_rule c.args.self.items c.args.step.now c.requires.is_step in
    (u.0, subst (λ (i : ℕ). slice_get c.args.self.items i ≡ Some (Rule u.0)) (sym c.requires.first) u.1)

pub lift-again-requires : goal.lift-again-requires
lift-again-requires c =
    let order : first_item c.args.step.now < last_item c.args.step.now = in_order c.args.self.items c.args.step.now c.requires.join c.requires.is_step in
    let less : c.args.upper < c.args.lower = omega (arith, order, c.requires.first, c.requires.last) in
    let u : (r : RuleParts) × (slice_get c.args.self.items (last_item c.args.step.now) ≡ Some (Rule r)) = last_rule c.args.self.items c.args.step.now c.requires.is_step in (
      u.0,
      ap (λ (items : List Item). slice_get items c.args.lower) c.lift-lifted.ensures.items ∙ get_other c.args.self.items c.args.upper c.args.lower placeholder less
          ∙ subst (λ (i : ℕ). slice_get c.args.self.items i ≡ Some (Rule u.0)) (sym c.requires.last) u.1,
    )

pub both_left-requires-clause-apart : goal.both_left-requires-clause-apart
both_left-requires-clause-apart c = λ known.
    let order : first_item c.args.step.now < last_item c.args.step.now = in_order c.args.self.items c.args.step.now c.requires.join c.requires.is_step in
    let less : c.args.upper < c.args.lower = omega (arith, order, c.requires.first, c.requires.last) in
    let below : slice_get c.args.self.items c.args.lower ≡ Some (Rule c.lift-again.result.1) =
    sym (ap (λ (items : List Item). slice_get items c.args.lower) c.lift-lifted.ensures.items ∙ get_other c.args.self.items c.args.upper c.args.lower placeholder less) ∙ c.lift-again.ensures.rule in
    c.requires.apart known c.lift-lifted.result.1 c.lift-again.result.1
    (subst (λ (i : ℕ). slice_get c.args.self.items i ≡ Some (Rule c.lift-lifted.result.1)) c.requires.first c.lift-lifted.ensures.rule)
    (subst (λ (i : ℕ). slice_get c.args.self.items i ≡ Some (Rule c.lift-again.result.1)) c.requires.last below)

pub put-requires-clause-at : goal.put-requires-clause-at
put-requires-clause-at c =
    let within : c.args.lower < length c.lift-lifted.result.0.items = slice_get_within c.lift-lifted.result.0.items c.args.lower (Rule c.lift-again.result.1) c.lift-again.ensures.rule in
    let same : length c.lift-again.result.0.items ≡ length c.lift-lifted.result.0.items =
    ap (λ (items : List Item). length items) c.lift-again.ensures.items ∙ length-set c.lift-lifted.result.0.items c.args.lower placeholder in
    omega (arith, within, same)

pub put-requires-clause-room : goal.put-requires-clause-room
put-requires-clause-room c = λ more.
    let order : first_item c.args.step.now < last_item c.args.step.now = in_order c.args.self.items c.args.step.now c.requires.join c.requires.is_step in
    let behind : 0 < c.args.lower = omega (arith, order, c.requires.last) in
    let order_key : HasOrderKeyBefore c.args.self.marks (last_item c.args.step.now) =
    order_key_for c.args.step.now c.lift-lifted.result.1 c.lift-again.result.1 (items_in c.in_ok-left.left.above) (items_in c.in_ok-left.left.below) c.args.self.marks c.in_ok-left.ensures.changes c.requires.order_key more in (
      behind,
      subst (λ (marks : List Mark). HasOrderKeyBefore marks c.args.lower) (sym (c.lift-again.ensures.marks ∙ c.lift-lifted.ensures.marks))
          (subst (HasOrderKeyBefore c.args.self.marks) (sym c.requires.last) order_key),
    )

pub put-requires-clause-item_ids : goal.put-requires-clause-item_ids
put-requires-clause-item_ids c = omega (arith, c.requires.item_ids, c.lift-again.ensures.next, c.lift-lifted.ensures.next)

pub masks_of_both-masks_above-requires : goal.masks_of_both-masks_above-requires
masks_of_both-masks_above-requires c =
    masks_known c.args.self.items c.lift-lifted.result.0.items c.args.step.now c.args.upper c.args.lower c.lift-lifted.result.1 c.lift-again.result.1 (items_in c.in_ok-left.left.above) (items_in c.in_ok-left.left.below)
    c.mask-upper_mask.result c.mask-lower_mask.result c.requires.join c.requires.is_step c.requires.first c.requires.last c.lift-lifted.ensures.rule c.lift-lifted.ensures.items c.lift-again.ensures.rule
    c.in_ok-left.ensures.changes c.mask-upper_mask.ensures c.mask-lower_mask.ensures

pub put-requires-2-clause-at : goal.put-requires-2-clause-at
put-requires-2-clause-at c =
    let order : first_item c.args.step.now < last_item c.args.step.now = in_order c.args.self.items c.args.step.now c.requires.join c.requires.is_step in
    let less : c.args.upper < c.args.lower = omega (arith, order, c.requires.first, c.requires.last) in
    let within : c.args.lower < length c.lift-lifted.result.0.items = slice_get_within c.lift-lifted.result.0.items c.args.lower (Rule c.lift-again.result.1) c.lift-again.ensures.rule in
    let same : length c.lift-again.result.0.items ≡ length c.lift-lifted.result.0.items =
    ap (λ (items : List Item). length items) c.lift-again.ensures.items ∙ length-set c.lift-lifted.result.0.items c.args.lower placeholder in
    subst (λ (items : List Item). c.args.upper < length items) (sym c.in_ok-between.ensures.items)
    (put_within c.args.upper c.args.lower (items_in c.in_ok-left.left.below) c.lift-again.result.0.items less (omega (arith, within, same)))

pub put-requires-2-clause-room : goal.put-requires-2-clause-room
put-requires-2-clause-room c = λ more.
    let few : length (items_in c.in_ok-left.left.above) ≤ 1 =
    few_above c.args.step.now c.lift-lifted.result.1 c.lift-again.result.1 (items_in c.in_ok-left.left.above) (change (last_item c.args.step.now) (items_in c.in_ok-left.left.below) ∷ []) c.in_ok-left.ensures.changes in
    absurd (omega (arith, more, few))

pub put-requires-2-clause-item_ids : goal.put-requires-2-clause-item_ids
put-requires-2-clause-item_ids c =
    let few : length (items_in c.in_ok-left.left.below) ≤ 2 =
    few_below c.args.step.now c.lift-lifted.result.1 c.lift-again.result.1 (items_in c.in_ok-left.left.above) (items_in c.in_ok-left.left.below) c.in_ok-left.ensures.changes in
    omega (arith, few, c.requires.item_ids, c.in_ok-between.ensures.next, c.lift-again.ensures.next, c.lift-lifted.ensures.next)

pub returns-clause-items : goal.returns-clause-items
returns-clause-items c =
    two_items c.args.self c.lift-lifted.result.0 c.lift-again.result.0 c.in_ok-between.between c.in_ok-after.after c.args.step.now c.args.upper c.args.lower
    c.lift-lifted.result.1 c.lift-again.result.1 (items_in c.in_ok-left.left.above) (items_in c.in_ok-left.left.below)
    (record {
      join = c.requires.join;
      first = c.requires.first;
      last = c.requires.last;
      upper_at = c.lift-lifted.ensures.rule;
      lower_at = c.lift-again.ensures.rule;
      as_many = c.lift-lifted.ensures.as_many;
      lifted_items = c.lift-lifted.ensures.items;
      lifted_marks = c.lift-lifted.ensures.marks;
      lifted_next = c.lift-lifted.ensures.next;
      again_items = c.lift-again.ensures.items;
      again_marks = c.lift-again.ensures.marks;
      again_next = c.lift-again.ensures.next;
      changes = c.in_ok-left.ensures.changes;
      between_items = c.in_ok-between.ensures.items;
      between_marks = c.in_ok-between.ensures.marks;
      between_next = c.in_ok-between.ensures.next;
      items = c.in_ok-after.ensures.items;
      marks = c.in_ok-after.ensures.marks;
    })

pub returns-clause-marks : goal.returns-clause-marks
returns-clause-marks c =
    two_marks c.args.self c.lift-lifted.result.0 c.lift-again.result.0 c.in_ok-between.between c.in_ok-after.after c.args.step.now c.args.upper c.args.lower
    c.lift-lifted.result.1 c.lift-again.result.1 (items_in c.in_ok-left.left.above) (items_in c.in_ok-left.left.below)
    (record {
      join = c.requires.join;
      first = c.requires.first;
      last = c.requires.last;
      upper_at = c.lift-lifted.ensures.rule;
      lower_at = c.lift-again.ensures.rule;
      as_many = c.lift-lifted.ensures.as_many;
      lifted_items = c.lift-lifted.ensures.items;
      lifted_marks = c.lift-lifted.ensures.marks;
      lifted_next = c.lift-lifted.ensures.next;
      again_items = c.lift-again.ensures.items;
      again_marks = c.lift-again.ensures.marks;
      again_next = c.lift-again.ensures.next;
      changes = c.in_ok-left.ensures.changes;
      between_items = c.in_ok-between.ensures.items;
      between_marks = c.in_ok-between.ensures.marks;
      between_next = c.in_ok-between.ensures.next;
      items = c.in_ok-after.ensures.items;
      marks = c.in_ok-after.ensures.marks;
    })

pub returns-clause-order_keys : goal.returns-clause-order_keys
returns-clause-order_keys c =
    two_order_keys c.args.self c.lift-lifted.result.0 c.lift-again.result.0 c.in_ok-between.between c.in_ok-after.after c.args.step.now c.args.upper c.args.lower
    c.lift-lifted.result.1 c.lift-again.result.1 (items_in c.in_ok-left.left.above) (items_in c.in_ok-left.left.below)
    (record {
      join = c.requires.join;
      first = c.requires.first;
      last = c.requires.last;
      upper_at = c.lift-lifted.ensures.rule;
      lower_at = c.lift-again.ensures.rule;
      as_many = c.lift-lifted.ensures.as_many;
      lifted_items = c.lift-lifted.ensures.items;
      lifted_marks = c.lift-lifted.ensures.marks;
      lifted_next = c.lift-lifted.ensures.next;
      again_items = c.lift-again.ensures.items;
      again_marks = c.lift-again.ensures.marks;
      again_next = c.lift-again.ensures.next;
      changes = c.in_ok-left.ensures.changes;
      between_items = c.in_ok-between.ensures.items;
      between_marks = c.in_ok-between.ensures.marks;
      between_next = c.in_ok-between.ensures.next;
      items = c.in_ok-after.ensures.items;
      marks = c.in_ok-after.ensures.marks;
    })

pub returns-clause-more : goal.returns-clause-more
returns-clause-more c = omega (arith, c.in_ok-after.ensures.next, c.in_ok-between.ensures.next, c.lift-again.ensures.next, c.lift-lifted.ensures.next)

pub returns-clause-few : goal.returns-clause-few
returns-clause-few c =
    let few : length (items_in c.in_ok-left.left.above) ≤ 1 =
    few_above c.args.step.now c.lift-lifted.result.1 c.lift-again.result.1 (items_in c.in_ok-left.left.above) (change (last_item c.args.step.now) (items_in c.in_ok-left.left.below) ∷ []) c.in_ok-left.ensures.changes in
    let two : length (items_in c.in_ok-left.left.below) ≤ 2 =
    few_below c.args.step.now c.lift-lifted.result.1 c.lift-again.result.1 (items_in c.in_ok-left.left.above) (items_in c.in_ok-left.left.below) c.in_ok-left.ensures.changes in
    omega (arith, few, two, c.in_ok-after.ensures.next, c.in_ok-between.ensures.next, c.lift-again.ensures.next, c.lift-lifted.ensures.next)

pub returns-clause-created : goal.returns-clause-created
returns-clause-created c = λ way move.
    let one : length (items_in c.in_ok-left.left.above) + length (items_in c.in_ok-left.left.below) ≡ 1 =
    one_made c.args.step.now c.lift-lifted.result.1 c.lift-again.result.1 (items_in c.in_ok-left.left.above) (items_in c.in_ok-left.left.below) c.in_ok-left.ensures.changes way move in
    omega (arith, one, c.in_ok-after.ensures.next, c.in_ok-between.ensures.next, c.lift-again.ensures.next, c.lift-lifted.ensures.next)
