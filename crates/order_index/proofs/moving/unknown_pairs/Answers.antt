use Rattle.order_index.proofs.moving.unknown_pairs.Goals as goal

pub returns : goal.returns
returns c = c.loop.invariant
