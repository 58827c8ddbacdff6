use Rattle.order_laws.proofs.places.listed_stands_last.Goals as goal
use Rattle.order_laws.proofs.SheetPlaces.{listed_stands_last}

pub returns : goal.returns
returns c = listed_stands_last
