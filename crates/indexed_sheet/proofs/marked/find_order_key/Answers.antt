use Rattle.std.proofs.Common.{rules}
use Rattle.std.proofs.lemmas.List.Sorted.{answers_always}
use Rattle.indexed_sheet.proofs.Searched.{order_key_searched}
use Rattle.indexed_sheet.proofs.marked.find_order_key.Goals as goal

-- the closure gives a mark's order key
pub returns : goal.returns
returns c =
    let facts = c.binary_search_by_key.ensures in
    let by_order_key = facts.position (λ mark. mark.order_key) (answers_always _ _ _ (λ f a r g called. search rules)) in
    order_key_searched c.args.marks.now c.args.order_key _ c.requires facts.bound by_order_key
