use Rattle.std.proofs.Common.{◌≡◌, ℕ, List, ap, map, subst, sym, ◌∙◌}
use Rattle.std.specs.Option.{ForSome}
use Rattle.css_model.specs.declared.sheet.Item.{Item}
use Rattle.css_model.specs.declared.sheet.Item.TheVariants.{Rule}
use Rattle.item_masks.specs.Masks.{item_mask}
use Rattle.step_laws.specs.Steps.{first_item, last_item}
use Rattle.step_savings.proofs.ForCallers.{first_rule, last_rule}
use Rattle.step_obstacles.proofs.Covering.{covered_by, mask_there, of_both}
use Rattle.step_obstacles.proofs.WindowFacts.{WindowAt, below, window_at}
use Rattle.step_obstacles.proofs.step_search.window_of.Goals as goal
use Rattle.window_order.specs.Left.{Covers, items_of}

pub invariant_of-result : goal.invariant_of-result
invariant_of-result c =
    let is = c.requires.is_step in
    let last = ap (λ (n : ℕ × ℕ). n.1) c.items_of-first.ensures in
    let a : WindowAt c.args.items.now c.starts_of-start.result.0 c.starts_of-start.result.1 c.items_of-first.result.1 (items_of c.left_by.result.0) =
    window_at c.args.items.now c.args.step.now is.0 is.1 c.starts_of-start.result.0 c.starts_of-start.result.1 c.items_of-first.result.1 (items_of c.left_by.result.0)
    c.starts_of-start.ensures.start c.starts_of-start.ensures.middle last (c.left_by.ensures.first is.0 is.1) in
    let u = first_rule c.args.items.now c.args.step.now is in
    let l = last_rule c.args.items.now c.args.step.now is in
    let mask : c.both_masks-left_mask.result ≡ of_both u.0 l.0 =
    c.both_masks-left_mask.ensures (item_mask (Rule u.0)) (item_mask (Rule l.0))
    (mask_there c.args.items.now c.args.masks.now c.items_of-first.result.0 (first_item c.args.step.now) u.0 c.requires.masks (ap (λ (n : ℕ × ℕ). n.0) c.items_of-first.ensures) u.1)
    (mask_there c.args.items.now c.args.masks.now c.items_of-first.result.1 (last_item c.args.step.now) l.0 c.requires.masks last l.1) in
    let covered : Covers c.both_masks-left_mask.result (items_of c.left_by.result.0) × Covers c.both_masks-left_mask.result (items_of c.left_by.result.1) =
    covered_by c.args.items.now c.args.step.now is.0 is.1 u.0 l.0 u.1 l.1 c.both_masks-left_mask.result mask (items_of c.left_by.result.0) (items_of c.left_by.result.1)
    (c.left_by.ensures.first is.0 is.1) (c.left_by.ensures.last is.0 is.1) in
    record { masked = c.requires.masks; start_first = a.start_first; middle_first = a.middle_first; within = a.within; between = a.between; first_plain = a.first_plain; left_plain = a.left_plain; first_covered = covered.0; last_covered = covered.1; same_items = c.requires.planned }

pub both_masks-left_mask-requires-clause-first : goal.both_masks-left_mask-requires-clause-first
both_masks-left_mask-requires-clause-first c =
    let u = first_rule c.args.items.now c.args.step.now c.requires.is_step in
    below c.args.masks.now c.items_of-first.result.0 (item_mask (Rule u.0))
    (mask_there c.args.items.now c.args.masks.now c.items_of-first.result.0 (first_item c.args.step.now) u.0 c.requires.masks (ap (λ (n : ℕ × ℕ). n.0) c.items_of-first.ensures) u.1)

pub both_masks-left_mask-requires-clause-last : goal.both_masks-left_mask-requires-clause-last
both_masks-left_mask-requires-clause-last c =
    let l = last_rule c.args.items.now c.args.step.now c.requires.is_step in
    below c.args.masks.now c.items_of-first.result.1 (item_mask (Rule l.0))
    (mask_there c.args.items.now c.args.masks.now c.items_of-first.result.1 (last_item c.args.step.now) l.0 c.requires.masks (ap (λ (n : ℕ × ℕ). n.1) c.items_of-first.ensures) l.1)
