use Rattle.rule_tables.proofs.Numbers.{same_numbers}
use Rattle.rule_tables.proofs.partners.each_once.Goals as goal

pub returns : goal.returns
returns c = same_numbers c.args.digests.items c.sort_unstable.new.self.items c.dedup.new.self.items c.sort_unstable.ensures.permutation c.dedup.ensures.filtered
