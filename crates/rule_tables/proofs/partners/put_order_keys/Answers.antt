use Rattle.rule_tables.proofs.Numbers.{appended}
use Rattle.rule_tables.proofs.partners.put_order_keys.Goals as goal

pub returns : goal.returns
returns c = appended c.extend_from_slice.result c.args.found.now.items c.extend_from_slice.new.self.items c.args.order_keys.now c.extend_from_slice.ensures.items
