use Rattle.overlap.proofs.Deciding.{few_result}
use Rattle.overlap.proofs.decision.decide_few.Goals as goal

pub new-requires : goal.new-requires
new-requires c = c.profile_is_fittable.ensures.table c.args.x.now c.args.y.now c.requires.first c.requires.second

pub returns-in-Ok-clause-answer : goal.returns-in-Ok-clause-answer
returns-in-Ok-clause-answer c = few_result c.args.x.now c.args.y.now c.args.budget c.in-Ok.table.fits c.decide_fitted.result c.in-Ok.ensures.ok.fits c.decide_fitted.ensures.answer
