use Rattle.std.proofs.Common.{◌≡◌, take}
use Rattle.bench_counts.specs.Asking.{AddsKinds, row}
use Rattle.bench_counts.proofs.answering.ask_row.Given as goal

-- the first selectors were asked
abbrev pub invariant-loop-y : goal.invariant-loop-y
invariant-loop-y l = record {
  budget : l.pairs.budget ≡ l.fn.pairs.budget;
  kinds : AddsKinds l.fn.pairs.budget (row l.x (take l.y-index l.all)) l.fn.kinds.items l.kinds.items;
}
