use Rattle.std.proofs.Common.{rules}
use Rattle.std.proofs.lemmas.List.Sorted.{answers_always}
use Rattle.sheet_same.specs.Members.{member_key}
use Rattle.sheet_same.proofs.Sorted.{sorted_in_order}
use Rattle.sheet_same.proofs.members.in_order.Goals as goal

pub returns : goal.returns
returns c =
    sorted_in_order _ _ (c.in_ok-sort_by_key.ensures.sorted member_key (answers_always _ _ _ (λ f a r g h. search rules)))
    (c.sort_by_key.ensures.stable member_key (answers_always _ _ _ (λ f a r g h. search rules)))
