use Rattle.rule_tables.proofs.Ascending.{last_place, searched_place}
use Rattle.rule_tables.proofs.order_key_lists.find_place.Goals as goal

pub returns-in-Some : goal.returns-in-Some
returns-in-Some c = last_place c.args.order_keys.now c.args.order_key c.in-Some.last.now c.requires c.in-Some.ensures.value c.if-last-order_key.true

pub returns-in_default : goal.returns-in_default
returns-in_default c = searched_place c.args.order_keys.now c.args.order_key c.binary_search.result c.requires c.binary_search.ensures.position
