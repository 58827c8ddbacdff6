use Rattle.window_order.proofs.Passed.{few_looked_at, few_passed}
use Rattle.window_order.proofs.masked.stands_in_few.Goals as goal

pub returns-then-lack_bit_of : goal.returns-then-lack_bit_of
returns-then-lack_bit_of c = few_passed c.args.p.now c.args.items.now c.args.masks.now c.selector_bits.result c.requires c.selector_bits.ensures (c.lack_bit_of.ensures c.if-lack_bit_of.true)

pub returns : goal.returns
returns c = few_looked_at c.args.p.now c.args.items.now c.args.masks.now c.stands_masked.result c.requires c.stands_masked.ensures
