use Rattle.plan_laws.proofs.Limit.Repeats.{repeats_are_cut}
use Rattle.plan_laws.proofs.pairs.repeats_are_cut.Goals as goal

pub returns : goal.returns
returns c = repeats_are_cut
