use Rattle.rule_tables.proofs.OtherRules.{stands_with}
use Rattle.rule_tables.proofs.laws.order_keyed_rules_stand.Goals as goal

pub returns : goal.returns
returns c = stands_with
