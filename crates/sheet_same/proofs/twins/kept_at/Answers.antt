use Rattle.sheet_same.proofs.KeptTwins.{place_is, no_place}
use Rattle.sheet_same.proofs.twins.kept_at.Goals as goal

pub returns-in-Some : goal.returns-in-Some
returns-in-Some c = place_is c.args.items.now c.args.places.now c.args.number c.in-Some.place.now c.requires c.in-Some.ensures.lookup.3.0 c.in-Some.ensures.lookup.3.1

pub returns-in-None : goal.returns-in-None
returns-in-None c = no_place c.args.items.now c.args.places.now c.args.number c.requires c.in-None.ensures.lookup.3
