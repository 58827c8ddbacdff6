use Rattle.std.proofs.Common.{arith, sym}
use Rattle.dead_text.proofs.Asked.{asks_one, tells_next}
use Rattle.dead_text.proofs.telling.tell.Goals as goal

pub returns-in_err-push_asked-clause-asks : goal.returns-in_err-push_asked-clause-asks
returns-in_err-push_asked-clause-asks c =
    asks_one c.args.pairs.now c.loop-one.pairs c.push_asked.new.pairs c.args.selectors.now c.one-item.result (c.loop-one.one-index, omega arith, sym c.one-item.is)
    c.loop-one.invariant.asks c.push_asked.ensures.asks

pub loop-one-preserved : goal.loop-one-preserved
loop-one-preserved c = record {
  asks = asks_one c.args.pairs.now c.loop-one.pairs c.push_asked.new.pairs c.args.selectors.now c.one-item.result (c.loop-one.one-index, omega arith, sym c.one-item.is)
      c.loop-one.invariant.asks c.push_asked.ensures.asks;
  tells = tells_next c.loop-one.pairs c.push_asked.new.pairs c.args.selectors.now c.loop-one.one-index c.one-item.result c.loop-one.out.items c.push_asked.new.out.items
      (omega arith) c.one-item.is c.loop-one.invariant.tells c.push_asked.ensures.asks c.in_ok-push_asked.ensures.tells;
}
