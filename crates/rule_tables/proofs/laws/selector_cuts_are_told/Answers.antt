use Rattle.rule_tables.proofs.Cutting.{selector_cuts_are_told}
use Rattle.rule_tables.proofs.laws.selector_cuts_are_told.Goals as goal

pub returns : goal.returns
returns c = selector_cuts_are_told
