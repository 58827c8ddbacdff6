use Rattle.dead_sel.proofs.Known.{copied_life, copied_life_is_true}
use Rattle.dead_sel.proofs.asking.known_life.Goals as goal

pub returns-clause-life : goal.returns-clause-life
returns-clause-life c =
    copied_life c.life_by.result c.profile_keeps_the_limits.ensures c.args.pairs.now c.args.s.now c.args.all.now c.in-Some.answer.now c.requires.profile c.requires.all
    c.in-Some.ensures.list c.in-Some.ensures.known c.life_by.ensures

pub returns-clause-truth : goal.returns-clause-truth
returns-clause-truth c =
    copied_life_is_true c.life_by.result c.profile_keeps_the_limits.ensures c.args.pairs.now c.args.s.now c.args.all.now c.in-Some.answer.now c.requires.profile c.requires.all
    c.in-Some.ensures.list c.in-Some.ensures.known c.life_by.ensures
