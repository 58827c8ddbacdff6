use Rattle.std.proofs.Common.{arith}
use Rattle.blockers_text.proofs.Counted.{total_more}
use Rattle.blockers_text.proofs.totals.total.Goals as goal

pub loop-step-preserved : goal.loop-step-preserved
loop-step-preserved c = record {
  counts = total_more c.args.of c.args.steps.now c.loop-step.step-index _ c.loop-step.count _ (omega arith) c.loop-step.invariant.counts c.with_step-count.ensures.exact;
  few =
      let was = c.loop-step.invariant.few in
      let more = c.with_step-count.ensures.few in
      omega (arith, was, more);
  small =
      let was = c.loop-step.invariant.small in
      let more = c.with_step-count.ensures.small in
      omega (arith, was, more);
}
