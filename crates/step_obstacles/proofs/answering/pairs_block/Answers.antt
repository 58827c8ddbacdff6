use Rattle.std.proofs.Common.{ap}
use Rattle.css_model.specs.Cascade.Order.{Pair}
use Rattle.step_obstacles.proofs.PairAnswers.{told_by}
use Rattle.step_obstacles.proofs.answering.pairs_block.Goals as goal

pub returns-clause-told : goal.returns-clause-told
returns-clause-told c =
    told_by c.told_apart.new.pairs.answers c.args.window.now c.args.p.now c.args.q.now c.p.inside.selector.now c.q.inside.selector.now
    (ap (λ (r : Pair). r.selector) c.p.view_is) (ap (λ (r : Pair). r.selector) c.q.view_is) c.requires.weigh
    c.requires.specificity (c.is_known_reversed.ensures.told.0 c.if-not-is_known_reversed.false) c.in_ok-told_apart.field-0 c.in_ok-told_apart.ensures.answered
