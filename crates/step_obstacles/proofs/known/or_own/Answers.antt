use Rattle.step_obstacles.proofs.Noted.{own_noted_with}
use Rattle.step_obstacles.proofs.known.or_own.Goals as goal

pub returns-in-Unasked : goal.returns-in-Unasked
returns-in-Unasked c = own_noted_with c.args.window.now c.args.place c.args.told c.standing_of.result c.requires c.standing_of.ensures
