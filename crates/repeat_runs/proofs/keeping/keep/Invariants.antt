use Rattle.std.proofs.Common.{◌≡◌, ◌++◌, length}
use Rattle.std.specs.Vec.Iter.{into_iter_items, into_iter_len}
use Rattle.repeat_runs.proofs.keeping.keep.Given as goal
use Rattle.run_laws.specs.Marks.{kept}

-- what is left of those before, and what will be of the rest
abbrev pub invariant-items : goal.invariant-items
invariant-items g l = record {
  same : l.left.items ++ kept l.rest (into_iter_items l.item-iterator) ≡ kept l.initial.rest (into_iter_items l.initial.item-iterator);
  long : into_iter_len l.item-iterator ≡ length (into_iter_items l.item-iterator);
}
