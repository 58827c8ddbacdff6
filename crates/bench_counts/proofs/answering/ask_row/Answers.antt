use Rattle.std.proofs.Common.{ℕ, List, ◌∙◌, arith, subst, sym}
use Rattle.bench_counts.specs.declared.answering.Kind.{Kind}
use Rattle.bench_counts.specs.Asking.{AddsKinds, IsKind, row}
use Rattle.std.proofs.Common.{take, ◌+◌}
use Rattle.bench_counts.proofs.Asked.{row_next}
use Rattle.bench_counts.proofs.answering.ask_row.Goals as goal

pub loop-y-preserved : goal.loop-y-preserved
loop-y-preserved c = record {
  budget = c.ask.ensures.budget ∙ c.loop-y.invariant.budget;
  kinds = subst (λ (items : List Kind). AddsKinds c.args.pairs.now.budget (row c.args.x.now (take (c.loop-y.y-index + 1) c.args.all.now)) c.args.kinds.now.items items) (sym c.in_ok-push.ensures.items)
      (row_next c.args.pairs.now.budget c.args.x.now c.y-item.result c.args.all.now c.loop-y.y-index c.in_ok-ask.field-0 c.args.kinds.now.items c.loop-y.kinds.items
      (omega arith) c.y-item.is c.loop-y.invariant.kinds (subst (λ (n : ℕ). IsKind n c.args.x.now c.y-item.result c.in_ok-ask.field-0) c.loop-y.invariant.budget c.in_ok-ask.ensures.kind));
}
