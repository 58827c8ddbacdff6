use Rattle.lint_text.proofs.Told.{match_nothing}
use Rattle.lint_text.proofs.laws.told_dead_match_nothing.Goals as goal

pub returns : goal.returns
returns c = match_nothing c.dead_match_nothing.ensures
