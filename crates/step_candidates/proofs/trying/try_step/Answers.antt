use Rattle.step_candidates.proofs.AddedSteps.{adds_one}
use Rattle.step_candidates.proofs.trying.try_step.Goals as goal

pub returns : goal.returns
returns c = adds_one c.args.on.now.lengths.now c.args.on.now.sheet.now.items c.args.step.now c.args.found.now c.put.new.self (c.saves.ensures.0 c.if-not-saves.false) c.in_ok-put.ensures
