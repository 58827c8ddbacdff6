use Rattle.merge_laws.proofs.Planning.{leads_make}
use Rattle.merge_laws.proofs.merged.leading_makes_of.Goals as goal

pub returns : goal.returns
returns c = leads_make c.each_is_made_of_itself.ensures c.steps_make_of.ensures
