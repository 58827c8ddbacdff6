use Rattle.compound_fit.proofs.Small.{no_room_tells, room_tells}
use Rattle.compound_fit.proofs.conditions.have_room.Goals as goal

pub returns-in-Some : goal.returns-in-Some
returns-in-Some c = room_tells c.args.x.now c.args.y.now c.in-Some.room c.room_behind-in-Some.result c.is_some.result c.in-Some.ensures c.room_behind-in-Some.ensures c.is_some.ensures

pub returns-in-None : goal.returns-in-None
returns-in-None c = no_room_tells c.args.x.now c.args.y.now c.in-None.ensures
