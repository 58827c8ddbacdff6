use Rattle.std.proofs.Common.{sym, ◌∙◌}
use Rattle.std.proofs.lemmas.Bool.{false≢true}
use Rattle.step_obstacles.proofs.specificities.is_among.Goals as goal
use Rattle.step_obstacles.proofs.Unlike.{behind_first}

pub rest-preserved : goal.rest-preserved
rest-preserved c =
    behind_first c.args.specificity c.in-Some.first.now c.rest.rest.now c.in-Some.behind.now c.args.specificities.now c.in-Some.ensures.cases.0
    (λ e. false≢true (sym c.if-is_same.false ∙ c.is_same.ensures.1 e)) c.rest.invariant
