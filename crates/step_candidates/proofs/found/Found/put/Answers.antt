use Rattle.step_candidates.proofs.RankedSteps.{put_step}
use Rattle.step_candidates.proofs.found.Found.put.Goals as goal

pub returns : goal.returns
returns c = put_step c.rank_of.result c.args.step.now c.self.inside.steps.keys c.insert.new.self.keys c.args.self.now c.rank_of.ensures c.self.view_is c.in_ok-insert.ensures.keys
