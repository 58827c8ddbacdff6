use Rattle.step_obstacles.proofs.Hinting.{found_within}
use Rattle.step_obstacles.proofs.hinted.with_other.Goals as goal

pub returns-in-Some-selector_there-clause-told : goal.returns-in-Some-selector_there-clause-told
returns-in-Some-selector_there-clause-told c =
    found_within c.args.window.now c.args.source.now c.args.moved.now c.args.number c.in-Some-selector_there.selector.now c.requires.moved c.in-Some-selector_there.ensures c.requires.common
    c.with_facing.new.pairs.answers c.in-Some.facing c.in-Some.ensures c.with_facing.result c.with_facing.ensures.told
