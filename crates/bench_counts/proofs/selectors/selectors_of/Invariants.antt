use Rattle.std.proofs.Common.{◌≡◌, take}
use Rattle.bench_counts.specs.Asking.{selectors_of}
use Rattle.bench_counts.proofs.selectors.selectors_of.Given as goal

-- those of the first items were put
abbrev pub invariant-loop-item : goal.invariant-loop-item
invariant-loop-item l = l.found.items ≡ selectors_of (take l.item-index l.items)
