use Rattle.step_candidates.specs.Numbered.{numbered}
use Rattle.rule_tables.proofs.ForCallers.{pair_of_none, pair_of_rule}
use Rattle.step_candidates.proofs.numbered.NumberedOrderKeyedRules.has_pair.Goals as goal

pub returns-in-Some : goal.returns-in-Some
returns-in-Some c = pair_of_rule (numbered c.args.self.now.sheet.now.items) c.args.order_key c.args.selector.now c.args.decl.now c.in-Some.rule.now c.has_both.result c.in-Some.ensures.some c.has_both.ensures

pub returns-in-None : goal.returns-in-None
returns-in-None c = pair_of_none (numbered c.args.self.now.sheet.now.items) c.args.order_key c.args.selector.now c.args.decl.now c.in-None.ensures.none
