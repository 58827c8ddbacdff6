use Rattle.step_obstacles.proofs.Noted.{own_noted}
use Rattle.step_obstacles.proofs.known.own_pair.Goals as goal

pub returns : goal.returns
returns c = own_noted c.args.window.now c.args.place c.standing_of.result c.standing_of.ensures
