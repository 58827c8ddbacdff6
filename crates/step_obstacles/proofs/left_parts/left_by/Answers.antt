use Rattle.std.proofs.Common.{◌≡◌, ℕ, Some, ap, subst}
use Rattle.std.specs.Prelude.{slice_get}
use Rattle.css_model.specs.declared.sheet.Item.TheVariants.{Rule}
use Rattle.step_laws.specs.Steps.{first_item, last_item}
use Rattle.step_obstacles.proofs.LeftParts.{first_by, last_by}
use Rattle.step_obstacles.proofs.left_parts.left_by.Goals as goal
use Rattle.window_order.specs.Left.{items_of}

pub returns-clause-first : goal.returns-clause-first
returns-clause-first c =
    let upper : slice_get c.args.items.now (first_item c.args.step.now) ≡ Some (Rule c.rule_at-upper.result.now) =
    subst (λ (n : ℕ). slice_get c.args.items.now n ≡ Some (Rule c.rule_at-upper.result.now)) (ap (λ (n : ℕ × ℕ). n.0) c.items_of-first.ensures) c.rule_at-upper.ensures in
    let lower : slice_get c.args.items.now (last_item c.args.step.now) ≡ Some (Rule c.rule_at-lower.result.now) =
    subst (λ (n : ℕ). slice_get c.args.items.now n ≡ Some (Rule c.rule_at-lower.result.now)) (ap (λ (n : ℕ × ℕ). n.1) c.items_of-first.ensures) c.rule_at-lower.ensures in
    first_by c.args.items.now c.args.step.now c.rule_at-upper.result.now c.rule_at-lower.result.now upper lower (items_of c.first_left.result) c.first_left.ensures

pub returns-clause-last : goal.returns-clause-last
returns-clause-last c =
    let upper : slice_get c.args.items.now (first_item c.args.step.now) ≡ Some (Rule c.rule_at-upper.result.now) =
    subst (λ (n : ℕ). slice_get c.args.items.now n ≡ Some (Rule c.rule_at-upper.result.now)) (ap (λ (n : ℕ × ℕ). n.0) c.items_of-first.ensures) c.rule_at-upper.ensures in
    let lower : slice_get c.args.items.now (last_item c.args.step.now) ≡ Some (Rule c.rule_at-lower.result.now) =
    subst (λ (n : ℕ). slice_get c.args.items.now n ≡ Some (Rule c.rule_at-lower.result.now)) (ap (λ (n : ℕ × ℕ). n.1) c.items_of-first.ensures) c.rule_at-lower.ensures in
    last_by c.args.items.now c.args.step.now c.rule_at-upper.result.now c.rule_at-lower.result.now upper lower (items_of c.last_left.result) c.last_left.ensures
