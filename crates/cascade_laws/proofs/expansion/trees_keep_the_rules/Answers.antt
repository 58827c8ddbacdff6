use Rattle.cascade_laws.proofs.Line.Rules.{keeps_rules}
use Rattle.cascade_laws.proofs.expansion.trees_keep_the_rules.Goals as goal

pub returns : goal.returns
returns c = keeps_rules
