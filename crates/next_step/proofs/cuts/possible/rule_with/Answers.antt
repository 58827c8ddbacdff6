use Rattle.std.proofs.Common.{◌≡◌, List, Some, subst}
use Rattle.std.specs.Prelude.{slice_get}
use Rattle.css_model.specs.declared.sheet.Item.{Item}
use Rattle.css_model.specs.declared.sheet.Item.TheVariants.{Rule}
use Rattle.css_model.specs.Sheets.RuleParts.{RuleParts}
use Rattle.rule_tables.proofs.ForCallers.{none_then, some_then}
use Rattle.next_step.proofs.Rules.{no_order_key, no_rule, the_rule}
use Rattle.next_step.proofs.cuts.possible.rule_with.Goals as goal

pub returns-in-Some-clause-some : goal.returns-in-Some-clause-some
returns-in-Some-clause-some c =
    some_then c.find_rule.result _ _ (λ rule at. the_rule c.order_keyed_rules_stand.ensures c.rules_are_order_keyed.ensures c.args.indexed.now c.args.indexed.now.next c.marks-marks.ensures.are_marks c.args.order_key c.in-Some.number c.in-Some.ensures.some rule.now
    (subst (λ (xs : List Item). slice_get xs c.in-Some.number ≡ Some (Rule rule.now)) c.items.ensures at))
    c.find_rule.ensures.some

pub returns-in-Some-clause-none : goal.returns-in-Some-clause-none
returns-in-Some-clause-none c =
    none_then c.find_rule.result (λ none. no_rule c.order_keyed_rules_stand.ensures c.rules_are_order_keyed.ensures c.args.indexed.now c.args.indexed.now.next c.marks-marks.ensures.are_marks c.args.order_key c.in-Some.number c.in-Some.ensures.some
    (subst (λ (xs : List Item). (r : RuleParts) → slice_get xs c.in-Some.number ≡ Some (Rule r) → ⊥) c.items.ensures none))
    c.find_rule.ensures.none

pub returns-in-None-clause-none : goal.returns-in-None-clause-none
returns-in-None-clause-none c = no_order_key c.order_keyed_rules_stand.ensures c.rules_are_order_keyed.ensures c.args.indexed.now c.args.indexed.now.next c.marks-marks.ensures.are_marks c.args.order_key c.in-None.ensures.none
