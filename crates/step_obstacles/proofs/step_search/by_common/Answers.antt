use Rattle.step_obstacles.proofs.Sources.{other_rule, told_common}
use Rattle.step_obstacles.proofs.Spans.{enough_common}
use Rattle.step_obstacles.proofs.step_search.by_common.Goals as goal

pub returns-clause-told : goal.returns-clause-told
returns-clause-told c =
    told_common c.in_window.new.pairs.answers c.args.items.now c.args.window.now c.args.upper c.args.lower c.in_ok-above.above c.in_ok-below.below
    (other_rule c.args.items.now c.args.lower c.in_ok-above.above.with c.in_ok-above.ensures.with c.in_ok-above.ensures.some)
    (other_rule c.args.items.now c.args.upper c.in_ok-below.below.with c.in_ok-below.ensures.with c.in_ok-below.ensures.some)
    c.in_ok-above.ensures.rule c.in_ok-below.ensures.rule c.in_window.result c.in_window.ensures.told

pub in_window-requires-clause-enough : goal.in_window-requires-clause-enough
in_window-requires-clause-enough c =
    enough_common c.args.items.now c.args.window.now c.args.span c.args.upper c.args.lower c.in_ok-above.above c.in_ok-below.below c.requires.enough
    (other_rule c.args.items.now c.args.lower c.in_ok-above.above.with c.in_ok-above.ensures.with c.in_ok-above.ensures.some)
    (other_rule c.args.items.now c.args.upper c.in_ok-below.below.with c.in_ok-below.ensures.with c.in_ok-below.ensures.some)
    c.in_ok-above.ensures.rule c.in_ok-below.ensures.rule
