use Rattle.std.proofs.Common.{rules}
use Rattle.std.proofs.lemmas.List.Sorted.{answers_always}
use Rattle.inspect_laws.specs.Order.{outranks}
use Rattle.inspect_text.proofs.Descending.{in_order, weak}
use Rattle.inspect_text.proofs.ordering.in_order.Goals as goal

pub returns : goal.returns
returns c =
    in_order c.args.entries.items c.sort_by.new.self.items c.requires c.sort_by.ensures.permutation
    (c.in_ok-sort_by.ensures.sorted outranks weak (answers_always _ _ _ (λ f a r g h. search rules)))
