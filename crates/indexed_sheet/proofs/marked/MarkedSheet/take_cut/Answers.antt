use Rattle.std.proofs.Common.{◌≡◌, ◌<◌, ◌≤◌, ℕ, List, [], length, Some, ap, sym, subst, ◌∙◌, arith}
use Rattle.std.specs.Prelude.{slice_get}
use Rattle.std.proofs.lemmas.List.{length-set}
use Rattle.std.proofs.lemmas.Option.{slice_get_within}
use Rattle.css_model.specs.declared.sheet.Item.{Item}
use Rattle.css_model.specs.declared.sheet.Item.TheVariants.{Rule}
use Rattle.css_model.specs.Sheets.RuleParts.{RuleParts}
use Rattle.step_laws.specs.Steps.{first_item}
use Rattle.step_savings.proofs.ForCallers.{first_rule, has_part}
use Rattle.indexed_sheet.specs.Putting.{items_in, placeholder}
use Rattle.indexed_sheet.proofs.LeftMasks.{cut_mask_known}
use Rattle.indexed_sheet.proofs.Taken.{cut_items, cut_marks, few_above}
use Rattle.indexed_sheet.proofs.marked.MarkedSheet.take_cut.Goals as goal

pub lift-indexed-requires : goal.lift-indexed-requires
lift-indexed-requires c =
    let u : (r : RuleParts) × (slice_get c.args.self.items (first_item c.args.step.now) ≡ Some (Rule r)) = first_rule c.args.self.items c.args.step.now c.requires.is_step in
    (u.0, subst (λ (i : ℕ). slice_get c.args.self.items i ≡ Some (Rule u.0)) (sym c.requires.number) u.1)

pub cut-left-requires-clause-part : goal.cut-left-requires-clause-part
cut-left-requires-clause-part c =
    has_part c.args.self.items c.args.step.now c.lift-indexed.result.1 c.requires.is_step
    (subst (λ (i : ℕ). slice_get c.args.self.items i ≡ Some (Rule c.lift-indexed.result.1)) c.requires.number c.lift-indexed.ensures.rule)

pub masks_of_cut-masks-requires : goal.masks_of_cut-masks-requires
masks_of_cut-masks-requires c =
    cut_mask_known c.args.self.items c.args.step.now c.args.number c.lift-indexed.result.1 (items_in c.cut-left.result) c.mask-mask.result c.lift-indexed.ensures.rule c.cut-left.ensures c.mask-mask.ensures

pub put-requires-clause-at : goal.put-requires-clause-at
put-requires-clause-at c =
    let within : c.args.number < length c.args.self.items = slice_get_within c.args.self.items c.args.number (Rule c.lift-indexed.result.1) c.lift-indexed.ensures.rule in
    let same : length c.lift-indexed.result.0.items ≡ length c.args.self.items =
    ap (λ (items : List Item). length items) c.lift-indexed.ensures.items ∙ length-set c.args.self.items c.args.number placeholder in
    omega (arith, within, same)

pub put-requires-clause-room : goal.put-requires-clause-room
put-requires-clause-room c = λ more.
    let few : length (items_in c.cut-left.result) ≤ 1 = few_above c.args.step.now c.lift-indexed.result.1 c.lift-indexed.result.1 (items_in c.cut-left.result) [] c.cut-left.ensures in
    absurd (omega (arith, more, few))

pub returns-clause-items : goal.returns-clause-items
returns-clause-items c =
    cut_items c.args.self c.lift-indexed.result.0 c.in_ok-after.after c.args.step.now c.args.number c.lift-indexed.result.1 (items_in c.cut-left.result)
    (record {
      cut = c.requires.cut;
      number = c.requires.number;
      rule_at = c.lift-indexed.ensures.rule;
      as_many = c.lift-indexed.ensures.as_many;
      lifted_items = c.lift-indexed.ensures.items;
      lifted_marks = c.lift-indexed.ensures.marks;
      lifted_next = c.lift-indexed.ensures.next;
      changes = c.cut-left.ensures;
      items = c.in_ok-after.ensures.items;
      marks = c.in_ok-after.ensures.marks;
    })

pub returns-clause-marks : goal.returns-clause-marks
returns-clause-marks c =
    cut_marks c.args.self c.lift-indexed.result.0 c.in_ok-after.after c.args.step.now c.args.number c.lift-indexed.result.1 (items_in c.cut-left.result)
    (record {
      cut = c.requires.cut;
      number = c.requires.number;
      rule_at = c.lift-indexed.ensures.rule;
      as_many = c.lift-indexed.ensures.as_many;
      lifted_items = c.lift-indexed.ensures.items;
      lifted_marks = c.lift-indexed.ensures.marks;
      lifted_next = c.lift-indexed.ensures.next;
      changes = c.cut-left.ensures;
      items = c.in_ok-after.ensures.items;
      marks = c.in_ok-after.ensures.marks;
    })

pub returns-clause-more : goal.returns-clause-more
returns-clause-more c = omega (arith, c.in_ok-after.ensures.next, c.lift-indexed.ensures.next)

pub returns-clause-few : goal.returns-clause-few
returns-clause-few c =
    let few : length (items_in c.cut-left.result) ≤ 1 = few_above c.args.step.now c.lift-indexed.result.1 c.lift-indexed.result.1 (items_in c.cut-left.result) [] c.cut-left.ensures in
    omega (arith, few, c.in_ok-after.ensures.next, c.lift-indexed.ensures.next)
