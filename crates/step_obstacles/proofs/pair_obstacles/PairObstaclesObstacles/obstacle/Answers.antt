use Rattle.std.proofs.Common.{rules, ◌≡◌, List, map, sym, subst}
use Rattle.overlap.specs.PairsParts.{Answered}
use Rattle.sheet_order.specs.Laws.{answer_seen}
use Rattle.step_laws.specs.Free as steps
use Rattle.step_obstacles.proofs.HeldAnswers.{stays_among}
use Rattle.step_obstacles.proofs.pair_obstacles.PairObstaclesObstacles.obstacle.Goals as goal

pub returns-clause-asked : goal.returns-clause-asked
returns-clause-asked c =
    let view : c.args.self.now.answers ≡ c.self-inside.inside.0.1.0.pairs.answers = search rules in
    subst (λ (answers : List Answered). steps.AreAmong (map answer_seen answers) (map answer_seen c.step_obstacle.new.pairs.answers)) (sym view)
    (stays_among _ c.step_obstacle.new.pairs c.step_obstacle.ensures.stays)
