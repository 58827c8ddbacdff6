use Rattle.std.proofs.Common.{◌≡◌, Some, subst}
use Rattle.std.specs.Prelude.{slice_get}
use Rattle.css_model.specs.declared.sheet.Item.{Item}
use Rattle.step_obstacles.proofs.Named.{told_kept, told_rule}
use Rattle.step_obstacles.proofs.searching.with_item.Goals as goal
use Rattle.step_obstacles.specs.Turns.{AreMasksIn}

pub with_rule-requires-clause-met : goal.with_rule-requires-clause-met
with_rule-requires-clause-met c = record {
  rule = subst (λ (i : Item). slice_get c.args.window.now.items.now c.args.met.now.number ≡ Some i) c.in-Rule.is c.requires.met.item.item_at;
  masks = subst (λ (i : Item). AreMasksIn i c.args.met.now.masks.now) c.in-Rule.is c.requires.met.masks;
}

pub returns-in-Rule-clause-told : goal.returns-in-Rule-clause-told
returns-in-Rule-clause-told c =
    told_rule c.with_rule.new.pairs.answers c.args.window.now c.args.moved.now.at.rule.now c.args.moved.now.at.decl.now c.args.met.now.number c.args.met.now.item.now c.in-Rule.rule c.in-Rule.is c.with_rule.result c.with_rule.ensures.told

pub returns-in-KeptRule-clause-told : goal.returns-in-KeptRule-clause-told
returns-in-KeptRule-clause-told c =
    told_kept c.with_kept.new.pairs.answers c.args.window.now c.args.moved.now.at.rule.now c.args.moved.now.at.decl.now c.args.met.now.number c.args.met.now.item.now c.in-KeptRule.is c.with_kept.result c.with_kept.ensures.told
