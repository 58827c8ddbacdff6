use Rattle.std.proofs.Common.{sym, ◌∙◌}
use Rattle.std.proofs.lemmas.Bool.{false≢true}
use Rattle.step_obstacles.proofs.PairAnswers.{kept_light}
use Rattle.step_obstacles.proofs.searching.with_kept.Goals as goal

pub of_selectors-requires-clause-faces : goal.of_selectors-requires-clause-faces
of_selectors-requires-clause-faces c = (
  record { item = c.args.item.now; item_at = c.requires.item.0.item_at; kept = c.requires.item.1; above = c.requires.item.0.above; below = c.requires.item.0.below },
  λ p e. (c.weighs_kept.ensures p e).0 c.if-weighs_kept.true,
)

pub returns-else-weighs_kept-clause-told : goal.returns-else-weighs_kept-clause-told
returns-else-weighs_kept-clause-told c =
    kept_light c.args.pairs.now.answers c.args.window.now c.args.number c.args.item.now c.requires.item.0.item_at c.requires.item.1 c.args.moved.now.at.rule.now c.args.moved.now.at.decl.now
    (λ p e h. false≢true (sym c.if-weighs_kept.false ∙ (c.weighs_kept.ensures p e).1 h))
