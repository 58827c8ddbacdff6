use Rattle.rule_tables.proofs.EntrySets.{then_ok}
use Rattle.rule_tables.proofs.Standing.{by_result, inserted, still_all, still_some}
use Rattle.rule_tables.proofs.tables.Tables.insert.Goals as goal

pub returns-clause-still : goal.returns-clause-still
returns-clause-still c =
    by_result c.put_rule.result c.put_rule.ensures.ok c.put_rule.ensures.err (still_all c.args.self.now c.put_rule.new.self c.args.rule.now c.args.order_key)
    (still_some c.args.self.now c.put_rule.new.self c.args.rule.now c.args.order_key)

pub returns-clause-covers : goal.returns-clause-covers
returns-clause-covers c = then_ok c.put_rule.result (inserted c.args.self.now c.put_rule.new.self c.args.rule.now c.args.order_key) c.put_rule.ensures.ok
