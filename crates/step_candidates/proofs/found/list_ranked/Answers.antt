use Rattle.std.proofs.Common.{◌≡◌, List, map, rules, subst, sym}
use Rattle.std.specs.List.{AllPairs}
use Rattle.std.proofs.lemmas.Result.{IfOk-weaker}
use Rattle.step_candidates.specs.declared.found.Ranked.{Ranked}
use Rattle.step_candidates.specs.Ranking.{ranked_step}
use Rattle.step_candidates.proofs.RankedSteps.{ascends}
use Rattle.step_candidates.proofs.found.list_ranked.Goals as goal
use Rattle.step_laws.specs.Steps.{StandsBefore}

pub returns-clause-ascends : goal.returns-clause-ascends
returns-clause-ascends c =
    IfOk-weaker c.collect.result (λ list. list.items ≡ c.args.set.keys) (λ list. AllPairs StandsBefore (map ranked_step list.items))
    (λ list is. subst (λ (keys : List Ranked). AllPairs StandsBefore (map ranked_step keys)) (sym is) (ascends c.args.set.keys c.into_iter.ensures.into_iter_gives.4)) (search rules)
