use Rattle.step_obstacles.proofs.Named.{own_faces}
use Rattle.step_obstacles.proofs.known.own_faced.Goals as goal

pub returns-in-Pair : goal.returns-in-Pair
returns-in-Pair c = own_faces c.args.window.now c.args.facing.now c.in-Pair.field-0 c.in-Pair.place c.in-Pair.field-2 c.in-Pair.is c.own_pair.result c.own_pair.ensures
