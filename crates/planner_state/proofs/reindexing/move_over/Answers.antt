use Rattle.std.proofs.Common.{◌≡◌, ℕ, List, Some, ap, subst}
use Rattle.std.specs.Prelude.{slice_get}
use Rattle.css_model.specs.declared.sheet.Item.{Item}
use Rattle.css_model.specs.declared.sheet.Item.TheVariants.{Rule}
use Rattle.pending_laws.specs.Ways.{mover, partner}
use Rattle.indexed_sheet.specs.declared.marks.Mark.{Mark}
use Rattle.indexed_sheet.specs.MarkList.{order_keys_of}
use Rattle.planner_state.proofs.reindexing.move_over.Goals as goal

pub returns : goal.returns
returns c =
    let moved : c.moved_items-moved.result.0 ≡ mover c.args.way c.args.step.now = ap (λ (p : ℕ × ℕ). p.0) c.moved_items-moved.ensures in
    let other : c.moved_items-moved.result.1 ≡ partner c.args.way c.args.step.now = ap (λ (p : ℕ × ℕ). p.1) c.moved_items-moved.ensures in
    let rule_at : slice_get c.args.indexed.now.items (mover c.args.way c.args.step.now) ≡ Some (Rule c.rule_at-rule.result.now) =
    subst (λ (n : ℕ). slice_get c.args.indexed.now.items n ≡ Some (Rule c.rule_at-rule.result.now)) moved
    (subst (λ (xs : List Item). slice_get xs c.moved_items-moved.result.0 ≡ Some (Rule c.rule_at-rule.result.now)) c.items.ensures c.rule_at-rule.ensures) in
    let own_at : slice_get (order_keys_of c.args.indexed.now.marks) (mover c.args.way c.args.step.now) ≡ Some c.order_key_at-own.result =
    subst (λ (n : ℕ). slice_get (order_keys_of c.args.indexed.now.marks) n ≡ Some c.order_key_at-own.result) moved
    (subst (λ (ms : List Mark). slice_get (order_keys_of ms) c.moved_items-moved.result.0 ≡ Some c.order_key_at-own.result) c.marks-marks.ensures.marks c.order_key_at-own.ensures) in
    let order_key_at : slice_get (order_keys_of c.args.indexed.now.marks) (partner c.args.way c.args.step.now) ≡ Some c.order_key_at-order_key.result =
    subst (λ (n : ℕ). slice_get (order_keys_of c.args.indexed.now.marks) n ≡ Some c.order_key_at-order_key.result) other
    (subst (λ (ms : List Mark). slice_get (order_keys_of ms) c.moved_items-moved.result.1 ≡ Some c.order_key_at-order_key.result) c.marks-marks.ensures.marks c.order_key_at-order_key.ensures) in
    λ e is. c.cover_follows_joins.ensures c.args.way c.args.indexed.now c.args.step.now e c.rule_at-rule.result.now c.order_key_at-own.result c.order_key_at-order_key.result c.args.tables.now c.insert.new.self c.remove.new.self
    (c.marks-marks.ensures.are_marks, c.marks-marks.ensures.as_many) c.requires.moves is rule_at own_at order_key_at c.in_ok-insert.ensures.ok c.remove.ensures.exact
