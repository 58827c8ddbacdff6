use Rattle.std.proofs.Common.{◌≡◌, List, Some, subst}
use Rattle.std.specs.Prelude.{slice_get}
use Rattle.css_model.specs.declared.sheet.Item.{Item}
use Rattle.css_model.specs.declared.sheet.Item.TheVariants.{Rule}
use Rattle.planner.proofs.Barriers.{pair_is}
use Rattle.planner.proofs.barring.pair_stands_from.Goals as goal

pub returns : goal.returns
returns c = λ none p is n r order_key at order_key_at most other has.
    c.stands_from.ensures none n r order_key at order_key_at most other
    (pair_is c.args.indexed.now.items c.args.place.now p is c.rule_at-rule.result.now
    (subst (λ (xs : List Item). slice_get xs c.args.place.now.item ≡ Some (Rule c.rule_at-rule.result.now)) c.items.ensures c.rule_at-rule.ensures)
    c.selector_of-selector.result.now c.selector_of-selector.ensures c.decl_of-decl.result.now c.decl_of-decl.ensures r has)
