use Rattle.step_candidates.proofs.AddedSteps.{all_joins}
use Rattle.step_candidates.proofs.trying.try_joins.Goals as goal

pub returns : goal.returns
returns c =
    all_joins c.args.on.now.lengths.now c.args.on.now.sheet.now.items c.args.upper c.args.lower
    c.args.found.now c.try_step.new.found c.try_step-2.new.found c.try_step-3.new.found c.try_step-4.new.found c.try_step-5.new.found c.requires.in_order
    c.in_ok-try_step.ensures c.in_ok-try_step-2.ensures c.in_ok-try_step-3.ensures c.in_ok-try_step-4.ensures c.in_ok-try_step-5.ensures
