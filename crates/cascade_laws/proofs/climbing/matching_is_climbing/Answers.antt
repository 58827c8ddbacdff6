use Rattle.cascade_laws.proofs.Eval.Climbing.{matching_climbs}
use Rattle.cascade_laws.proofs.climbing.matching_is_climbing.Goals as goal

pub returns : goal.returns
returns c = matching_climbs
