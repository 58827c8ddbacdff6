use Rattle.step_obstacles.proofs.HeldAnswers.{stays_itself}
use Rattle.step_obstacles.proofs.Masked.{number_passed}
use Rattle.step_obstacles.proofs.window_search.of_turn.Goals as goal

pub returns-then-is_passed-clause-stays : goal.returns-then-is_passed-clause-stays
returns-then-is_passed-clause-stays c = stays_itself c.args.pairs.now

pub returns-then-is_passed-clause-told : goal.returns-then-is_passed-clause-told
returns-then-is_passed-clause-told c =
    number_passed c.args.pairs.now.answers c.args.window.now c.args.number c.args.sources.now c.requires.masked (c.is_passed.ensures c.if-is_passed.true)
