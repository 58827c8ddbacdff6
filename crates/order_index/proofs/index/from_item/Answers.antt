use Rattle.std.proofs.Common.{◌≡◌, ℕ, nat_lt, take, drop, sym, ap, ◌∙◌, arith, rules}
use Rattle.std.specs.List.{prefix_len}
use Rattle.std.proofs.lemmas.List.Sorted.{IsPartitionPoint-from_clause, IsPartitionedBy-ltb}
use Rattle.std.proofs.lemmas.List.Sums.{prefix_len_is}
use Rattle.std.proofs.lemmas.List.{length-drop}
use Rattle.std.proofs.Math.Seq.{take-length}
use Rattle.order_index.proofs.Rising.{some_pair}
use Rattle.order_index.proofs.index.from_item.Goals as goal

pub returns : goal.returns
returns c =
    let xs = c.args.pairs.now in
    let n = c.partition_point-n.result in
    let parted = IsPartitionedBy-ltb (λ q. q.place.item) xs c.args.item c.requires in
    let point = IsPartitionPoint-from_clause (λ q. nat_lt q.place.item c.args.item) _ _ c.partition_point-n.ensures.partitioned parted (λ a r q k. search rules) in
    let len : prefix_len (λ q. nat_lt q.place.item c.args.item) xs ≡ n =
    prefix_len_is _ xs n some_pair c.partition_point-n.ensures.bound (λ k l. point.0 k some_pair (omega arith) l) (λ l. point.1 n some_pair (omega arith) l)
    in
    ap (λ (m : ℕ). take m (drop n xs)) (sym (length-drop n xs)) ∙ take-length (drop n xs) ∙ ap (λ (m : ℕ). drop m xs) (sym len)
