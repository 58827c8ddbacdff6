use Rattle.rule_tables.specs.Tables.{selector_digests}
use Rattle.rule_tables.proofs.EntrySets.{then_ok}
use Rattle.rule_tables.proofs.Sharing.{shared_behind}
use Rattle.rule_tables.proofs.partners.put_shared.Goals as goal

pub returns : goal.returns
returns c =
    then_ok c.put_order_keys.result (shared_behind c.args.entries.now (selector_digests c.args.selectors.now) c.args.found.now.items c.order_keys_of_selectors.result.now c.put_order_keys.new.found.items c.order_keys_of_selectors.ensures.shared)
    c.put_order_keys.ensures
