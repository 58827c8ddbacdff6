use Rattle.std.proofs.Common.{sym, subst, ◌∙◌}
use Rattle.std.proofs.lemmas.Bool.{false≢true}
use Rattle.step_obstacles.proofs.Looking.{taken_all}
use Rattle.step_obstacles.proofs.specificities.have_one_of.Goals as goal
use Rattle.step_obstacles.proofs.Unlike.{none_more}
use Rattle.step_obstacles.specs.Turns.{HaveOneOf}

pub loop-item-preserved : goal.loop-item-preserved
loop-item-preserved c =
    none_more c.args.specificities.now c.args.selectors.now c.loop-item.item-index c.item-item.result c.specificity_in_profile.result c.loop-item-test.true c.item-item.is c.specificity_in_profile.ensures
    (λ h. false≢true (sym c.if-is_among.false ∙ c.is_among.ensures.1 h)) c.loop-item.invariant

pub returns : goal.returns
returns c = (
  λ e. absurd (false≢true e),
  λ h. absurd (c.loop-item.invariant (subst (HaveOneOf c.args.specificities.now) (sym (taken_all c.args.selectors.now c.loop-item.item-index c.loop-item-test.false)) h)),
)
