use Rattle.std.proofs.Common.{◌∙◌}
use Rattle.dead_sel.proofs.Apart.{known_dead}
use Rattle.dead_sel.proofs.held.is_dead_beside.Goals as goal

pub returns : goal.returns
returns c = c.is_known_apart.ensures ∙ known_dead c.args.pairs.now c.args.s.now c.args.all.now c.known.result c.known.ensures.list c.requires c.known.ensures.known
