use Rattle.rule_tables.proofs.Cutting.{decl_cuts_are_told}
use Rattle.rule_tables.proofs.laws.decl_cuts_are_told.Goals as goal

pub returns : goal.returns
returns c = decl_cuts_are_told
