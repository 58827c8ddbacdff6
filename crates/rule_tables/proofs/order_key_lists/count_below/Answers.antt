use Rattle.std.proofs.Common.{arith}
use Rattle.rule_tables.proofs.Ascending.{below_place, from_place}
use Rattle.rule_tables.proofs.order_key_lists.count_below.Goals as goal

pub returns-in-Ok-clause-below : goal.returns-in-Ok-clause-below
returns-in-Ok-clause-below c = below_place c.args.order_keys.now c.args.at c.in-Ok.place c.requires c.in-Ok.ensures.0 c.in-Ok.ensures.1

pub returns-in-Ok-clause-from : goal.returns-in-Ok-clause-from
returns-in-Ok-clause-from c = from_place c.args.order_keys.now c.args.at c.in-Ok.place c.requires c.in-Ok.ensures.0 c.in-Ok.ensures.1

pub returns-in-Err-clause-from : goal.returns-in-Err-clause-from
returns-in-Err-clause-from c = λ k least inside. let above = c.in-Err.ensures.2 k least inside in omega (arith, above)
