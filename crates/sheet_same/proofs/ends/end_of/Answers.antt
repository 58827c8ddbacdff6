use Rattle.std.proofs.Common.{not, rules}
use Rattle.std.proofs.lemmas.List.Sorted.{IsPartitionPoint-from_clause}
use Rattle.sheet_same.specs.declared.ends.Least.{Least}
use Rattle.sheet_same.specs.Ends.{is_past}
use Rattle.sheet_same.proofs.LeastPlaces.{end_within, end_searched, parted_as}
use Rattle.sheet_same.proofs.ends.end_of.Goals as goal

pub returns-clause-within : goal.returns-clause-within
returns-clause-within c = end_within c.args.later.now c.args.leasts.now c.partition_point.result c.requires c.partition_point.ensures.bound

pub returns-clause-behind : goal.returns-clause-behind
returns-clause-behind c =
    let point = IsPartitionPoint-from_clause (λ (l : Least). not (is_past l c.args.member.now)) _ _ c.partition_point.ensures.partitioned (parted_as c.args.later.now c.args.leasts.now c.args.member.now c.requires) (λ a r q k. search rules) in
    end_searched c.args.later.now c.args.leasts.now c.args.member.now c.partition_point.result c.requires c.partition_point.ensures.bound (λ k d from below. point.1 k d from below)
