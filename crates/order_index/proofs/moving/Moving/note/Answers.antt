use Rattle.order_index.proofs.Knowing.{one_noted}
use Rattle.order_index.proofs.moving.Moving.note.Goals as goal

pub returns-then-number-len-clause-known : goal.returns-then-number-len-clause-known
returns-then-number-len-clause-known c = λ w p are at is. one_noted w c.args.self.now.pairs.items c.args.self.now.known.items c.args.number p c.args.known are at is
