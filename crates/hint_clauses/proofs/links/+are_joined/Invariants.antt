use Rattle.hint_clauses.proofs.links.+are_joined.Given as goal

abbrev pub decreases-are_joined : goal.decreases-are_joined
decreases-are_joined l = l.q
