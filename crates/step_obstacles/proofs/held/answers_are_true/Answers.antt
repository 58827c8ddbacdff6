use Rattle.step_obstacles.proofs.held.answers_are_true.Goals as goal
use Rattle.step_obstacles.proofs.HeldAnswers.{true_answers}

pub returns : goal.returns
returns c = true_answers c.apart_selectors_do_not_meet.ensures c.args.pairs.now c.are_true.ensures
