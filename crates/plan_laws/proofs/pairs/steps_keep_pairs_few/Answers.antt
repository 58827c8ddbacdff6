use Rattle.plan_laws.proofs.Limit.PairSteps.{pairs_stay_few}
use Rattle.plan_laws.proofs.pairs.steps_keep_pairs_few.Goals as goal

pub returns : goal.returns
returns c = pairs_stay_few
