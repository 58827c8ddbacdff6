use Rattle.std.proofs.Common.{ℕ, ◌∙◌, arith, subst}
use Rattle.bench_counts.specs.Asking.{AddsKinds, row}
use Rattle.bench_counts.proofs.Asked.{all_next}
use Rattle.bench_counts.proofs.answering.ask_all.Goals as goal

pub loop-x-preserved : goal.loop-x-preserved
loop-x-preserved c = record {
  budget = c.ask_row.ensures.budget ∙ c.loop-x.invariant.budget;
  kinds = all_next c.args.pairs.now.budget c.x-item.result c.args.all.now c.loop-x.x-index c.loop-x.kinds.items c.ask_row.new.kinds.items (omega arith) c.x-item.is c.loop-x.invariant.kinds
      (subst (λ (n : ℕ). AddsKinds n (row c.x-item.result c.args.all.now) c.loop-x.kinds.items c.ask_row.new.kinds.items) c.loop-x.invariant.budget c.in_ok-ask_row.ensures.kinds);
}
