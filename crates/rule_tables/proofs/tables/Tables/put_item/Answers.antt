use Rattle.rule_tables.proofs.EntrySets.{then_ok}
use Rattle.rule_tables.proofs.Standing.{rule_as_item}
use Rattle.rule_tables.proofs.tables.Tables.put_item.Goals as goal

pub returns-in-Rule : goal.returns-in-Rule
returns-in-Rule c = then_ok c.put_rule.result (rule_as_item c.args.self.now c.put_rule.new.self c.in-Rule.rule c.args.order_key c.args.item.now c.in-Rule.is) c.put_rule.ensures.ok
