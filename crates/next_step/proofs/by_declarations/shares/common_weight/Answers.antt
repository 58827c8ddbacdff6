use Rattle.next_step.proofs.Sharing.{apart_count}
use Rattle.next_step.proofs.by_declarations.shares.common_weight.Goals as goal

pub returns-then-apart-clause-most : goal.returns-then-apart-clause-most
returns-then-apart-clause-most c = apart_count c.args.source.now c.args.above.now c.args.below.now (c.requires.apart c.if-apart.true)
