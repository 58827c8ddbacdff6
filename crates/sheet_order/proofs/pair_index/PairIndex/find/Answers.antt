use Rattle.std.proofs.Common.{rules, Some, None}
use Rattle.sheet_order.proofs.Finding.{found_in}
use Rattle.sheet_order.proofs.pair_index.PairIndex.find.Goals as goal

pub returns-in-Some : goal.returns-in-Some
returns-in-Some c = found_in c.self.inside.firsts.keys c.self.inside.pairs.now c.args.self.now c.args.p.now.pair (Some c.found.inside.placed) c.self.inside.indexed (search rules) (search rules)

pub returns-in-None : goal.returns-in-None
returns-in-None c = found_in c.self.inside.firsts.keys c.self.inside.pairs.now c.args.self.now c.args.p.now.pair None c.self.inside.indexed (search rules) (search rules)
