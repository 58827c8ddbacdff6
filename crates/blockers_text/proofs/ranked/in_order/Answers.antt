use Rattle.std.proofs.Common.{rules}
use Rattle.std.proofs.lemmas.List.Sorted.{answers_always}
use Rattle.blockers_text.proofs.Ranking.{weak}
use Rattle.blockers_text.proofs.ranked.in_order.Goals as goal
use Rattle.blockers_text.specs.BlockersTexts.{comes_first}

pub returns : goal.returns
returns c = record {
  same = c.sort_by.ensures.permutation;
  descend = c.in_ok-sort_by.ensures.sorted comes_first weak (answers_always _ _ _ (λ f a r g h. search rules));
  stable = c.sort_by.ensures.stable comes_first weak (answers_always _ _ _ (λ f a r g h. search rules));
}
