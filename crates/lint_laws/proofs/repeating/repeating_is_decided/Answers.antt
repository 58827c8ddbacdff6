use Rattle.lint_laws.proofs.LastPlace.{repeating_decided}
use Rattle.lint_laws.proofs.repeating.repeating_is_decided.Goals as goal

pub returns : goal.returns
returns c = repeating_decided c.listed_stands_last.ensures
