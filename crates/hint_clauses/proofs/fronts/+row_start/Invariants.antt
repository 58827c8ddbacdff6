use Rattle.hint_clauses.proofs.fronts.+row_start.Given as goal

abbrev pub decreases-row_start : goal.decreases-row_start
decreases-row_start l = l.k
