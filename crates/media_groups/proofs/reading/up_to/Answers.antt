use Rattle.std.proofs.Common.{◌≡◌, ℕ, nat_le, take, sym, ap, arith, rules}
use Rattle.std.specs.List.{prefix_len}
use Rattle.std.proofs.lemmas.List.Sorted.{IsPartitionPoint-from_clause, IsPartitionedBy-leb}
use Rattle.std.proofs.lemmas.List.Sums.{prefix_len_is}
use Rattle.media_groups.proofs.Places.{ends_rise, some_token}
use Rattle.media_groups.proofs.reading.up_to.Goals as goal

pub returns : goal.returns
returns c =
    let xs = c.args.xs.now in
    let n = c.partition_point-n.result in
    let parted = IsPartitionedBy-leb (λ x. x.span.«end») xs c.args.at (ends_rise 0 xs c.requires) in
    let point = IsPartitionPoint-from_clause (λ x. nat_le x.span.«end» c.args.at) _ _ c.partition_point-n.ensures.partitioned parted (λ a r q k. search rules) in
    let len : prefix_len (λ x. nat_le x.span.«end» c.args.at) xs ≡ n =
    prefix_len_is _ xs n some_token c.partition_point-n.ensures.bound (λ k l. point.0 k some_token (omega arith) l) (λ l. point.1 n some_token (omega arith) l)
    in
    ap (λ (m : ℕ). take m xs) (sym len)
