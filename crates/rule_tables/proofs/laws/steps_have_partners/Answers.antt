use Rattle.rule_tables.proofs.StepRules.{steps_have_partners}
use Rattle.rule_tables.proofs.laws.steps_have_partners.Goals as goal

pub returns : goal.returns
returns c = steps_have_partners
