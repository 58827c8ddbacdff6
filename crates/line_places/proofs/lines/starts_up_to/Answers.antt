use Rattle.std.proofs.Common.{nat_le, sym, arith, rules}
use Rattle.std.proofs.lemmas.List.Sorted.{IsPartitionPoint-from_clause, IsPartitionedBy-leb}
use Rattle.std.proofs.lemmas.List.Sums.{prefix_len_is}
use Rattle.line_places.proofs.lines.starts_up_to.Goals as goal

pub returns-clause-count : goal.returns-clause-count
returns-clause-count c =
    let xs = c.args.starts.now in
    let n = c.partition_point.result in
    let parted = IsPartitionedBy-leb (λ x. x) xs c.args.at c.requires in
    let point = IsPartitionPoint-from_clause (λ x. nat_le x c.args.at) _ _ c.partition_point.ensures.partitioned parted (λ a r q k. search rules) in
    sym (prefix_len_is _ xs n 0 c.partition_point.ensures.bound (λ k l. point.0 k 0 (omega arith) l) (λ l. point.1 n 0 (omega arith) l))
