use Rattle.window_order.proofs.LastPlaces.{first_alone, second_alone_there}
use Rattle.window_order.proofs.place.order_by_places.Goals as goal

pub returns-in-None-Some : goal.returns-in-None-Some
returns-in-None-Some c = second_alone_there c.args.items.now c.args.p.now c.args.q.now c.args.at c.args.other c.in-None-Some.field-0-1 c.in-None-Some.is-0 c.in-None-Some.is-1 c.requires.first c.requires.second

pub returns-in-Some-None : goal.returns-in-Some-None
returns-in-Some-None c = first_alone c.args.items.now c.args.p.now c.args.q.now c.args.at c.args.other c.in-Some-None.field-0-0 c.in-Some-None.is-0 c.in-Some-None.is-1 c.requires.first c.requires.second
