use Rattle.std.proofs.Common.{◌+◌, ap, drop, ◌∙◌}
use Rattle.rule_tables.proofs.FreePlaces.{moved_back}
use Rattle.rule_tables.proofs.order_key_lists.move_back.Goals as goal

pub returns-clause-moved : goal.returns-clause-moved
returns-clause-moved c = ap (drop (c.args.from + 1)) c.copy_within.ensures.after ∙ moved_back c.args.places.now c.args.from c.args.to c.requires.order c.requires.within
