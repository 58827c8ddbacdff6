use Rattle.rule_tables.proofs.StepRules.{rules_are_order_keyed}
use Rattle.rule_tables.proofs.laws.rules_are_order_keyed.Goals as goal

pub returns : goal.returns
returns c = rules_are_order_keyed
