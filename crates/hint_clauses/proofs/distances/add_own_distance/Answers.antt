use Rattle.hint_clauses.proofs.distances.add_own_distance.Goals as goal

pub add_related-requires-clause-gap : goal.add_related-requires-clause-gap
add_related-requires-clause-gap c = c.gap_of-gap.ensures.gap _ tt (c.in_ok-first.ensures.front _ c.requires.in_range) (c.in_ok-second.ensures.front _ c.requires.in_range)
