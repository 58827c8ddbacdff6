use Rattle.blockers_text.proofs.Freeing.{others_are_apart}
use Rattle.blockers_text.proofs.laws.others_are_apart.Goals as goal

pub returns : goal.returns
returns c = others_are_apart c.listed_is_reversed.ensures
