use Rattle.std.proofs.Common.{rules}
use Rattle.std.proofs.lemmas.List.Sorted.{answers_always}
use Rattle.lint_text.proofs.sorting.in_order.Goals as goal

pub returns : goal.returns
returns c = record {
  same = c.sort_by_key.ensures.permutation;
  ascending = c.in_ok-sort_by_key.ensures.sorted (λ f. f.at) (answers_always _ _ _ (λ f a r g h. search rules));
  stable = c.sort_by_key.ensures.stable (λ f. f.at) (answers_always _ _ _ (λ f a r g h. search rules));
}
