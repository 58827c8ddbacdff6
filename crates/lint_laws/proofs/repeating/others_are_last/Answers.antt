use Rattle.lint_laws.proofs.Removed.{others_last}
use Rattle.lint_laws.proofs.repeating.others_are_last.Goals as goal

pub returns : goal.returns
returns c = others_last c.listed_stands_last.ensures
