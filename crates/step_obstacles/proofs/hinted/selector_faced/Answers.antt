use Rattle.std.proofs.Common.{refl}
use Rattle.step_obstacles.proofs.Hinting.{pair_faces}
use Rattle.step_obstacles.proofs.hinted.selector_faced.Goals as goal
use Rattle.step_obstacles.proofs.Named.{in_profile}

pub pair_faced-requires : goal.pair_faced-requires
pair_faced-requires c = in_profile c.args.window.now c.args.other.now c.args.number c.in-Some.selector.now c.requires.other c.in-Some.ensures c.requires.askable c.in-Some.selector.now.selector refl

pub returns-in-Some : goal.returns-in-Some
returns-in-Some c =
    pair_faces c.args.window.now c.args.other.now c.args.number c.in-Some.selector.now c.requires.other c.in-Some.ensures c.requires.askable c.args.moved.now.decl.now
    (c.decls_weigh.ensures.0 c.if-not-decls_weigh.false) c.requires.above c.requires.below c.pair_faced.result c.pair_faced.ensures
