use Rattle.std.proofs.Common.{sym, ◌∙◌}
use Rattle.std.proofs.lemmas.Bool.{false≢true}
use Rattle.step_obstacles.proofs.Masked.{source_passed}
use Rattle.step_obstacles.proofs.searching.of_source.Goals as goal
use Rattle.step_obstacles.proofs.Unlike.{unlike_passed}

pub returns-then-source-mask-eq0-clause-told : goal.returns-then-source-mask-eq0-clause-told
returns-then-source-mask-eq0-clause-told c =
    source_passed c.args.pairs.now.answers c.args.window.now c.args.number c.args.item.now c.args.source.now c.args.mask c.requires.item c.requires.masked c.requires.mask c.if-source-mask-eq0.true

pub returns-then-not-item_may_weigh-clause-told : goal.returns-then-not-item_may_weigh-clause-told
returns-then-not-item_may_weigh-clause-told c =
    unlike_passed c.args.pairs.now.answers c.args.window.now c.args.number c.args.item.now c.args.source.now c.requires.masked
    (λ h. false≢true (sym c.if-not-item_may_weigh.true ∙ c.item_may_weigh.ensures.1 h))
