use Rattle.std.specs.Prelude.{nat_eq}
use Rattle.std.specs.Cmp.Lexicographic.{pointwise}
use Rattle.std.proofs.lemmas.List.Filters.{dedup_is}
use Rattle.cascade_eval.proofs.Ascending.{names_ascend}
use Rattle.cascade_eval.proofs.names.names.Goals as goal

pub returns : goal.returns
returns c =
    names_ascend c.args.entries.now c.in_ok-names.names.items c.sort.new.self.items c.dedup.new.self.items c.in_ok-names.ensures c.in_ok-sort.ensures.permutation c.in_ok-sort.ensures.sorted
    (dedup_is (pointwise nat_eq) c.sort.new.self.items c.dedup.new.self.items c.dedup.ensures.filtered)
