use Rattle.std.proofs.Common.{◌≡◌, ◌<◌, ℕ, List, Some, subst, ◌∙◌}
use Rattle.std.specs.Prelude.{slice_get}
use Rattle.std.proofs.lemmas.Bool.{false≢true}
use Rattle.css_model.specs.declared.sheet.Item.{Item}
use Rattle.css_model.specs.declared.sheet.Item.TheVariants.{Rule}
use Rattle.css_model.specs.Sheets.RuleParts.{RuleParts}
use Rattle.next_step.proofs.Owned.{no_order_key, no_rule, other_item_id}
use Rattle.next_step.proofs.Telling.{item_id_at, order_key_within}
use Rattle.next_step.proofs.next.next_candidates.Goals as goal

pub returns-in_default-clause-covers : goal.returns-in_default-clause-covers
returns-in_default-clause-covers c =
    no_order_key c.args.view.now c.new-found.result c.marks-marks.ensures.as_many c.args.at c.requires.at (rw c.in_default.is at c.number_of.ensures.none)

pub mark-mark-requires : goal.mark-mark-requires
mark-mark-requires c =
    subst (λ (m : ℕ). c.in-Some.number < m) c.marks-marks.ensures.as_many (order_key_within c.args.view.now.indexed.now.marks c.in-Some.number c.args.at c.in-Some.ensures.some)

pub returns-then-mark-view-clause-covers : goal.returns-then-mark-view-clause-covers
returns-then-mark-view-clause-covers c =
    other_item_id c.args.view.now c.new-found.result c.marks-marks.ensures.as_many c.args.at c.requires.at c.args.view.now.indexed.now.next c.marks-marks.ensures.are_marks c.in-Some.number c.in-Some.ensures.some
    c.mark-mark.result c.mark-mark.ensures c.if-mark-view.true

pub returns-in_default-find_rule-clause-covers : goal.returns-in_default-find_rule-clause-covers
returns-in_default-find_rule-clause-covers c =
    no_rule c.args.view.now c.new-found.result c.marks-marks.ensures.as_many c.args.at c.requires.at c.args.view.now.indexed.now.next c.marks-marks.ensures.are_marks c.in-Some.number c.in-Some.ensures.some
    (subst (λ (xs : List Item). (r : RuleParts) → slice_get xs c.in-Some.number ≡ Some (Rule r) → ⊥) c.items.ensures (rw c.in_default-find_rule.is at c.find_rule.ensures.none))

pub look_at-requires-clause-focus : goal.look_at-requires-clause-focus
look_at-requires-clause-focus c = record {
  rule = subst (λ (xs : List Item). slice_get xs c.in-Some.number ≡ Some (Rule c.in-Some-find_rule.rule.now)) c.items.ensures c.in-Some-find_rule.ensures.some;
  there = subst (λ (m : ℕ). c.in-Some.number < m) c.marks-marks.ensures.as_many (order_key_within c.args.view.now.indexed.now.marks c.in-Some.number c.args.at c.in-Some.ensures.some);
  order_key = c.in-Some.ensures.some;
  owned = item_id_at c.args.view.now.indexed.now.marks c.in-Some.number c.mark-mark.result c.mark-mark.ensures ∙ c.if-mark-view.false;
  own_selectors = λ known. absurd (false≢true known);
  once = λ known. absurd (false≢true known);
}
