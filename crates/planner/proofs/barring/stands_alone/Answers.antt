use Rattle.std.proofs.Common.{arith}
use Rattle.std.proofs.lemmas.Bool.{not-true}
use Rattle.planner.proofs.Barriers.{alone_by_order_keys, place_within}
use Rattle.planner.proofs.barring.stands_alone.Goals as goal

pub mark-from-requires : goal.mark-from-requires
mark-from-requires c = place_within c.args.indexed.now.items c.args.other.now c.requires.other_there.0 c.requires.other_there.1

pub mark-own-requires : goal.mark-own-requires
mark-own-requires c = place_within c.args.indexed.now.items c.args.moved.now c.requires.moved_there.0 c.requires.moved_there.1

pub returns : goal.returns
returns c = λ yes p q p_is q_is.
    alone_by_order_keys c.args.indexed.now c.requires.marked c.args.other.now.item c.args.moved.now.item c.mark-from.result c.mark-own.result p q (omega (arith, c.if-moved-other.false))
    c.mark-from.ensures c.mark-own.ensures (c.pair_stands_from.ensures c.if-pair_stands_from.false p p_is) (c.pair_stands_from-2.ensures (not-true c.pair_stands_from-2.result yes) q q_is)
