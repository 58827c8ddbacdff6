use Rattle.next_step.specs.Marked.{rules_of}
use Rattle.rule_tables.proofs.ForCallers.{pair_of_none, pair_of_rule}
use Rattle.next_step.proofs.cuts.possible.IndexedRulesOrderKeyedRules.has_pair.Goals as goal

pub returns-in-Some : goal.returns-in-Some
returns-in-Some c = pair_of_rule (rules_of c.args.self.now.indexed.now) c.args.order_key c.args.selector.now c.args.decl.now c.in-Some.rule.now c.has_both.result c.in-Some.ensures.some c.has_both.ensures

pub returns-in-None : goal.returns-in-None
returns-in-None c = pair_of_none (rules_of c.args.self.now.indexed.now) c.args.order_key c.args.selector.now c.args.decl.now c.in-None.ensures.none
