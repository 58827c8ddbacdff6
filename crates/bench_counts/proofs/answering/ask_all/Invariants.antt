use Rattle.std.proofs.Common.{◌≡◌, take}
use Rattle.std.specs.List.{flat_map}
use Rattle.bench_counts.specs.Asking.{AreKinds, row}
use Rattle.bench_counts.proofs.answering.ask_all.Given as goal

-- the first selectors were asked with all
abbrev pub invariant-loop-x : goal.invariant-loop-x
invariant-loop-x l = record {
  budget : l.pairs.budget ≡ l.fn.pairs.budget;
  kinds : AreKinds l.fn.pairs.budget (flat_map (λ x. row x l.all) (take l.x-index l.all)) l.kinds.items;
}
