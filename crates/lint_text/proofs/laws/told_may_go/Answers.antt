use Rattle.lint_text.proofs.Told.{may_go}
use Rattle.lint_text.proofs.laws.told_may_go.Goals as goal

pub returns : goal.returns
returns c = may_go c.dead_match_nothing.ensures c.cleaning_bodies_keeps_winners.ensures
