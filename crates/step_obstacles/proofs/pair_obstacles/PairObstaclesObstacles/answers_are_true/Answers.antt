use Rattle.std.proofs.Common.{rules, ◌≡◌, List, map, sym, subst}
use Rattle.overlap.specs.PairsParts.{Answered}
use Rattle.sheet_order.specs.Laws.{answer_seen}
use Rattle.step_laws.specs.Free as steps
use Rattle.step_obstacles.proofs.pair_obstacles.PairObstaclesObstacles.answers_are_true.Goals as goal

pub returns : goal.returns
returns c =
    let view : c.args.self.now.answers ≡ c.self-inside.inside.0.1.0.pairs.answers = search rules in
    subst (λ (answers : List Answered). steps.AreTrue (map answer_seen answers)) (sym view) c.answers_are_true.ensures
