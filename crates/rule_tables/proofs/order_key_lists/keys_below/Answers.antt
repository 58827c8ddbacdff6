use Rattle.rule_tables.proofs.Ascending.{front_ascends, in_front}
use Rattle.rule_tables.proofs.order_key_lists.keys_below.Goals as goal

pub returns-clause-ascends : goal.returns-clause-ascends
returns-clause-ascends c = front_ascends c.args.order_keys.now c.count_below.result c.count_below.ensures.few c.requires

pub returns-clause-below : goal.returns-clause-below
returns-clause-below c = in_front c.args.order_keys.now c.args.at c.count_below.result c.count_below.ensures.few c.count_below.ensures.below c.count_below.ensures.from
