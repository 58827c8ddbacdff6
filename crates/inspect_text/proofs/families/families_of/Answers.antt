use Rattle.std.specs.Prelude.{nat_eq}
use Rattle.std.specs.Cmp.Lexicographic.{pointwise}
use Rattle.std.proofs.lemmas.List.Filters.{dedup_is}
use Rattle.inspect_text.proofs.Leading.{families_ascend}
use Rattle.inspect_text.proofs.families.families_of.Goals as goal

pub returns : goal.returns
returns c =
    families_ascend c.args.entries.now c.in_ok-names.names.items c.sort.new.self.items c.dedup.new.self.items c.in_ok-names.ensures c.in_ok-sort.ensures.permutation c.in_ok-sort.ensures.sorted
    (dedup_is (pointwise nat_eq) c.sort.new.self.items c.dedup.new.self.items c.dedup.ensures.filtered)
